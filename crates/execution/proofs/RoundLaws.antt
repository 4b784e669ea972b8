-- A round of replies fills the front; so lawful logs are within the chain, and no sparing run is shorter.
use Rattle.std.proofs.Common.{◌≡◌, ◌≢◌, ◌==◌, ℕ, suc, ◌≤◌, ◌<◌, ◌+◌, Bool, true, false, ◌⊎◌, List, [], ◌∷◌, ◌++◌, map, length, IsSome, inl, inr, sym, ◌∙◌, ap, refl, subst, Option, Some, None, arith, if◌then◌else◌, eqb-true, eq-eqb, replicate}
use Rattle.std.proofs.Math.Path.{fun_ext}
use Rattle.std.proofs.lemmas.List.{length-map, length-replicate}
use Rattle.std.specs.Option.{option_or}
use Rattle.load_memory.specs.Keys.{KeyOf, folded, same_key}
use Rattle.load_memory.specs.Outcomes.{OutcomeOf, known, batch_fault}
use Rattle.load_memory.specs.Pairs.{PairOf, is_at, look}
use Rattle.load_memory.specs.Replies.{ReplyOf}
use Rattle.load_memory.specs.declared.key.KeyMode.{KeyMode}
use Rattle.load_memory.proofs.Looks.{same_key-refl}
use Rattle.load_queue.specs.Answers.{AnswerOf, given, failed, wrong_count, outcomes_of}
use Rattle.load_queue.specs.Batches.{batches, joined}
use Rattle.load_queue.specs.Orders.{OrderOf, order_of}
use Rattle.load_queue.proofs.PieceLaws.{are-batches}
use Rattle.execution.specs.Loads.{Load, Memory, mode_at, cache_key, read, IsOneOf, Extends}
use Rattle.execution.specs.Program.{Program, chain}
use Rattle.execution.specs.Front.{keys_for, front}
use Rattle.execution.specs.Rounds.{RuleOf, modes_of, any_answer, orders_from, round_orders, IsReply, AreReplies, reply_pairs, pairs_of, stored, after_round, AreRounds, IsSparing, AreLimited, HasLoaders}
use Rattle.execution.proofs.Same.{one-either}
use Rattle.execution.proofs.ChainLaws.{extends-self, Fills, IsFilling, front-needs, filling-chain, filling-below, filling-sparing}

-- some order asks this key of this loader
abbrev pub IsOrdered : ℕ → KeyOf → List OrderOf → Type 0
IsOrdered loader key [] = ⊥
IsOrdered loader key (o ∷ os) = ((loader ≡ o.loader) × IsOneOf key o.keys) ⊎ IsOrdered loader key os

ordered-left : (loader : ℕ) (key : KeyOf) (os ps : List OrderOf) → IsOrdered loader key os → IsOrdered loader key (os ++ ps)
ordered-left loader key [] ps h = absurd h
ordered-left loader key (o ∷ os) ps (inl e) = inl e
ordered-left loader key (o ∷ os) ps (inr h) = inr (ordered-left loader key os ps h)

ordered-right : (loader : ℕ) (key : KeyOf) (os ps : List OrderOf) → IsOrdered loader key ps → IsOrdered loader key (os ++ ps)
ordered-right loader key [] ps h = h
ordered-right loader key (o ∷ os) ps h = inr (ordered-right loader key os ps h)

-- a load's key is asked of its loader
keys-one : (l : Load) (ls : List Load) → IsOneOf l ls → IsOneOf l.key (keys_for l.loader ls)
keys-one l [] h = absurd h
keys-one l (x ∷ xs) h = go (x.loader == l.loader) refl h (keys-one l xs)
  where
    go : (b : Bool) → (x.loader == l.loader) ≡ b → (l ≡ x) ⊎ IsOneOf l xs → (IsOneOf l xs → IsOneOf l.key (keys_for l.loader xs)) → IsOneOf l.key (keys_for l.loader (x ∷ xs))
    go true e (inl s) ih = rw e (inl (ap (λ (m : Load). m.key) s))
    go true e (inr d) ih = rw e (inr (ih d))
    go false e (inl s) ih = absurd (cc (sym (eq-eqb x.loader l.loader (sym (ap (λ (m : Load). m.loader) s))) ∙ e))
    go false e (inr d) ih = rw e (ih d)

one-joined : (n : ℕ) (key : KeyOf) (ps : List (List KeyOf)) → IsOneOf key (joined ps) → IsOrdered n key (map (order_of n) ps)
one-joined n key [] h = absurd h
one-joined n key (p ∷ ps) h = elim (one-either key p (joined ps) h) [ inl a ↦ inl (refl, a) | inr b ↦ inr (one-joined n key ps b) ]

orders-ordered : (n : ℕ) (rules : List RuleOf) (ls : List Load) (l : Load) → AreLimited rules → n ≤ l.loader → l.loader < n + length rules → IsOneOf l ls → IsOrdered l.loader l.key (orders_from n rules ls)
orders-ordered n [] ls l positive low high h = absurd (omega arith)
orders-ordered n (rule ∷ rules) ls l positive low high h = go (l.loader == n) refl (λ more. orders-ordered (suc n) rules ls l positive.1 more (omega arith) h)
  where
    here : List OrderOf
    here = map (order_of n) (batches rule.limit (keys_for n ls))

    go : (b : Bool) → (l.loader == n) ≡ b → (suc n ≤ l.loader → IsOrdered l.loader l.key (orders_from (suc n) rules ls)) → IsOrdered l.loader l.key (orders_from n (rule ∷ rules) ls)
    go true e ih =
        let at : l.loader ≡ n = eqb-true l.loader n e in
        let key : IsOneOf l.key (keys_for n ls) = subst (λ m. IsOneOf l.key (keys_for m ls)) at (keys-one l ls h) in
        let piece : IsOneOf l.key (joined (batches rule.limit (keys_for n ls))) = rw (are-batches rule.limit (keys_for n ls) positive.0).in_order key in
        ordered-left l.loader l.key (map (order_of n) (batches rule.limit (keys_for n ls))) (orders_from (suc n) rules ls)
        (subst (λ m. IsOrdered m l.key (map (order_of n) (batches rule.limit (keys_for n ls)))) (sym at) (one-joined n l.key (batches rule.limit (keys_for n ls)) piece))
    go false e ih =
        let ne : l.loader ≢ n = λ at. cc (sym (eq-eqb l.loader n at) ∙ e) in
        ordered-right l.loader l.key (map (order_of n) (batches rule.limit (keys_for n ls))) (orders_from (suc n) rules ls) (ih (omega (arith, ne)))

look-left : (loader : ℕ) (key : KeyOf) (ps qs : List PairOf) → IsSome (look ps loader key) → IsSome (look (ps ++ qs) loader key)
look-left loader key [] qs h = absurd (cc h)
look-left loader key (p ∷ ps) qs h = go (is_at loader key p) h (look-left loader key ps qs)
  where
    go : (b : Bool) → IsSome (if b then Some p.outcome else look ps loader key) → (IsSome (look ps loader key) → IsSome (look (ps ++ qs) loader key)) → IsSome (if b then Some p.outcome else look (ps ++ qs) loader key)
    go true h ih = h
    go false h ih = ih h

look-right : (loader : ℕ) (key : KeyOf) (ps qs : List PairOf) → IsSome (look qs loader key) → IsSome (look (ps ++ qs) loader key)
look-right loader key [] qs h = h
look-right loader key (p ∷ ps) qs h = go (is_at loader key p) (look-right loader key ps qs h)
  where
    go : (b : Bool) → IsSome (look (ps ++ qs) loader key) → IsSome (if b then Some p.outcome else look (ps ++ qs) loader key)
    go true ih = refl
    go false ih = ih

pub pair-at : (loader : ℕ) (key : KeyOf) (p : PairOf) → loader ≡ p.loader → key ≡ p.key → is_at loader key p ≡ true
pair-at loader key p e f =
    let one : (loader == p.loader) ≡ true = eq-eqb loader p.loader e in
    let two : same_key key p.key ≡ true = ap (λ k. same_key key k) (sym f) ∙ same_key-refl key in
    rw (one, two) refl

reply-some : (mode : KeyMode) (loader : ℕ) (keys : List KeyOf) (outcomes : List OutcomeOf) (key : KeyOf) → length outcomes ≡ length keys → IsOneOf key keys → IsSome (look (reply_pairs mode loader keys outcomes) loader (folded mode key))
reply-some mode loader [] outcomes key len h = absurd h
reply-some mode loader (k ∷ ks) [] key len h = absurd (omega (arith, len))
reply-some mode loader (k ∷ ks) (o ∷ os) key len h = go (is_at loader (folded mode key) (record { loader = loader; key = folded mode k; outcome = o })) refl h (reply-some mode loader ks os key (omega (arith, len)))
  where
    go : (b : Bool) → is_at loader (folded mode key) (record { loader = loader; key = folded mode k; outcome = o }) ≡ b → (key ≡ k) ⊎ IsOneOf key ks → (IsOneOf key ks → IsSome (look (reply_pairs mode loader ks os) loader (folded mode key)))
        → IsSome (if b then Some o else look (reply_pairs mode loader ks os) loader (folded mode key))
    go true e h ih = refl
    go false e (inl s) ih = absurd (cc (sym (pair-at loader (folded mode key) (record { loader = loader; key = folded mode k; outcome = o }) refl (ap (folded mode) s)) ∙ e))
    go false e (inr d) ih = ih d

pub outcomes-length : (n : ℕ) (a : AnswerOf) → length (outcomes_of n a) ≡ n
outcomes-length n (given items) = go (length items == n) refl
  where
    go : (b : Bool) → (length items == n) ≡ b → length (if b then map known items else replicate n (batch_fault (wrong_count (length items) n))) ≡ n
    go true e = length-map items known ∙ eqb-true (length items) n e
    go false e = length-replicate n (batch_fault (wrong_count (length items) n))
outcomes-length n (failed text) = length-replicate n (batch_fault text)

module _ (may : ℕ → List KeyOf → AnswerOf → Type 0) where
  pub reply-length : (o : OrderOf) (r : ReplyOf) → IsReply may o r → length r.outcomes ≡ length r.keys
  reply-length o r h = ap length h.outcomes ∙ outcomes-length (length o.keys) h.answer ∙ sym (ap length h.keys)

  -- each key that is ordered is in the replies
  replies-some : (modes : List KeyMode) (os : List OrderOf) (rs : List ReplyOf) (loader : ℕ) (key : KeyOf) → AreReplies may os rs → IsOrdered loader key os → IsSome (look (pairs_of modes rs) loader (folded (mode_at modes loader) key))
  replies-some modes [] [] loader key h k = absurd k
  replies-some modes [] (r ∷ rs) loader key h k = absurd h
  replies-some modes (o ∷ os) [] loader key h k = absurd h
  replies-some modes (o ∷ os) (r ∷ rs) loader key h (inl k) =
      let here : IsSome (look (reply_pairs (mode_at modes r.loader) r.loader r.keys r.outcomes) r.loader (folded (mode_at modes r.loader) key)) =
      reply-some (mode_at modes r.loader) r.loader r.keys r.outcomes key (reply-length o r h.0) (rw h.0.keys k.1) in
      look-left loader (folded (mode_at modes loader) key) (reply_pairs (mode_at modes r.loader) r.loader r.keys r.outcomes) (pairs_of modes rs)
      (subst (λ n. IsSome (look (reply_pairs (mode_at modes r.loader) r.loader r.keys r.outcomes) n (folded (mode_at modes n) key))) (h.0.loader ∙ sym k.0) here)
  replies-some modes (o ∷ os) (r ∷ rs) loader key h (inr k) =
      look-right loader (folded (mode_at modes loader) key) (reply_pairs (mode_at modes r.loader) r.loader r.keys r.outcomes) (pairs_of modes rs) (replies-some modes os rs loader key h.1 k)

  or-some : (x y : Option OutcomeOf) → IsSome y → IsSome (option_or x y)
  or-some None y h = h
  or-some (Some o) y h = refl

  -- a round fills the front
  pub round-fills : (rules : List RuleOf) (p : Program) (M : Memory) (round : List ReplyOf) → AreLimited rules → HasLoaders (length rules) p → AreReplies may (round_orders rules (front (modes_of rules) p M)) round → Fills (modes_of rules) p M (after_round rules M round)
  round-fills rules p M round positive within h = λ l one.
      let modes : List KeyMode = modes_of rules in
      let below : l.loader < length rules = within (read modes M) l (front-needs modes p M l one) in
      let ordered : IsOrdered l.loader l.key (round_orders rules (front modes p M)) = orders-ordered 0 rules (front modes p M) l positive (omega arith) (omega arith) one in
      or-some (M l.loader (cache_key modes l)) (look (pairs_of modes round) l.loader (cache_key modes l)) (replies-some modes (round_orders rules (front modes p M)) round l.loader l.key h ordered)

  -- and adds only
  pub stored-extends : (M : Memory) (ps : List PairOf) → Extends M (stored M ps)
  stored-extends M ps = λ loader key o e. rw e refl

  unfoldable pub memories : List RuleOf → Memory → List (List ReplyOf) → List Memory
  memories rules M [] = []
  memories rules M (round ∷ rounds) = after_round rules M round ∷ memories rules (after_round rules M round) rounds

  pub length-memories : (rules : List RuleOf) (M : Memory) (rounds : List (List ReplyOf)) → length (memories rules M rounds) ≡ length rounds
  unfolding memories
  length-memories rules M [] = refl
  length-memories rules M (round ∷ rounds) = ap (λ n. suc n) (length-memories rules (after_round rules M round) rounds)

  pub rounds-filling : (rules : List RuleOf) (p : Program) (M : Memory) (rounds : List (List ReplyOf)) (end : Memory) → AreLimited rules → HasLoaders (length rules) p → AreRounds may rules p M rounds end → IsFilling (modes_of rules) p M (memories rules M rounds) end
  unfolding memories
  rounds-filling rules p M [] end positive within h = fun_ext (λ loader. fun_ext (λ key. h loader key))
  rounds-filling rules p M (round ∷ rounds) end positive within h = (
    h.0,
    stored-extends M (pairs_of (modes_of rules) round),
    round-fills rules p M round positive within h.1,
    rounds-filling rules p (after_round rules M round) rounds end positive within h.2,
  )

  pub rounds-chain : (rules : List RuleOf) (p : Program) (M : Memory) (rounds : List (List ReplyOf)) (end : Memory) → AreLimited rules → HasLoaders (length rules) p → AreRounds may rules p M rounds end → length rounds ≤ chain p (read (modes_of rules) end)
  rounds-chain rules p M rounds end positive within h =
      omega (arith, length-memories rules M rounds, filling-chain (modes_of rules) p M (memories rules M rounds) end end (rounds-filling rules p M rounds end positive within h) (extends-self end))

  -- there are fewer where something is missing still
  pub rounds-below : (rules : List RuleOf) (p : Program) (M : Memory) (rounds : List (List ReplyOf)) (end : Memory) → AreLimited rules → HasLoaders (length rules) p → AreRounds may rules p M rounds end → front (modes_of rules) p end ≢ [] → length rounds < chain p (read (modes_of rules) end)
  rounds-below rules p M rounds end positive within h ne =
      omega (arith, length-memories rules M rounds, filling-below (modes_of rules) p M (memories rules M rounds) end (rounds-filling rules p M rounds end positive within h) ne)

  pub rounds-sparing : (rules : List RuleOf) (p : Program) (M : Memory) (rounds : List (List ReplyOf)) (end : Memory) (Ns : List Memory) → AreLimited rules → HasLoaders (length rules) p → AreRounds may rules p M rounds end → IsSparing (modes_of rules) p end M Ns → length rounds ≤ length Ns
  rounds-sparing rules p M rounds end Ns positive within h run =
      let less : length (memories rules M rounds) ≤ length Ns = filling-sparing (modes_of rules) p M M end end (memories rules M rounds) Ns (extends-self M) (rounds-filling rules p M rounds end positive within h) (extends-self end) run in
      omega (arith, length-memories rules M rounds, less)

  -- one round more
  pub rounds-more : (rules : List RuleOf) (p : Program) (M mid : Memory) (rounds : List (List ReplyOf)) (round : List ReplyOf) → AreRounds may rules p M rounds mid → front (modes_of rules) p mid ≢ [] → AreReplies may (round_orders rules (front (modes_of rules) p mid)) round
      → AreRounds may rules p M (rounds ++ round ∷ []) (after_round rules mid round)
  rounds-more rules p M mid [] round h ne r =
      let e : mid ≡ M = fun_ext (λ loader. fun_ext (λ key. h loader key)) in
      (rw e at ne, rw e at r, λ loader key. ap (λ m. after_round rules m round loader key) e)
  rounds-more rules p M mid (first ∷ rounds) round h ne r = (h.0, h.1, rounds-more rules p (after_round rules M first) mid rounds round h.2 ne r)

  any-replies : (os : List OrderOf) (rs : List ReplyOf) → AreReplies may os rs → AreReplies any_answer os rs
  any-replies [] [] h = tt
  any-replies [] (r ∷ rs) h = absurd h
  any-replies (o ∷ os) [] h = absurd h
  any-replies (o ∷ os) (r ∷ rs) h = (record { loader = h.0.loader; keys = h.0.keys; answer = h.0.answer; may_be = tt; outcomes = h.0.outcomes }, any-replies os rs h.1)

  -- rounds over some sources are rounds over whatever sources
  pub any-rounds : (rules : List RuleOf) (p : Program) (M : Memory) (rounds : List (List ReplyOf)) (end : Memory) → AreRounds may rules p M rounds end → AreRounds any_answer rules p M rounds end
  any-rounds rules p M [] end h = h
  any-rounds rules p M (round ∷ rounds) end h =
      (h.0, any-replies (round_orders rules (front (modes_of rules) p M)) round h.1, any-rounds rules p (after_round rules M round) rounds end h.2)
