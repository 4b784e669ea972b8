-- A key whose batch didn't fail stays in the memory until it is cleared, and what is there is not asked.
use Rattle.std.proofs.Common.{◌≡◌, ◌==◌, ◌||◌, ℕ, Bool, true, false, List, [], ◌∷◌, ◌++◌, map, length, IsSome, is_none, inl, inr, sym, ◌∙◌, ap, refl, Option, Some, None, if◌then◌else◌, replicate}
use Rattle.std.specs.List.{list_any}
use Rattle.std.specs.Option.{option_or}
use Rattle.load_memory.specs.Keys.{KeyOf}
use Rattle.load_memory.specs.Outcomes.{ItemOf, OutcomeOf, known, batch_fault}
use Rattle.load_memory.specs.Pairs.{PairOf, look}
use Rattle.load_memory.specs.Replies.{ReplyOf}
use Rattle.load_memory.specs.declared.key.KeyMode.{KeyMode}
use Rattle.load_queue.specs.Answers.{AnswerOf, given, failed, wrong_count, outcomes_of}
use Rattle.load_queue.specs.Orders.{OrderOf}
use Rattle.execution.specs.Loads.{Load, Memory, mode_at, read, IsOneOf}
use Rattle.execution.specs.Front.{missing, firsts}
use Rattle.execution.specs.Rounds.{RuleOf, modes_of, round_orders, IsReply, AreReplies, reply_pairs, pairs_of, unless_failed, AreLimited}
use Rattle.execution.specs.Sessions.{Cell, key_cell, cell_of, AreApart, order_cells, Step, Forgot, AskedLoads, Lost, Primed, Cleared, ClearedAll, Restarted, after, AreMissing, IsStep, AreSteps, clears, HasFailed, FailedAt, IsAskedAgainRightly}
use Rattle.execution.proofs.Same.{filter-one, firsts-one}
use Rattle.execution.proofs.ReplyLaws.{make, one-map, look-member, member-some, pairs-from, pair_cell, replies-cells, firsts-apart, orders-apart, orders-loads}

none-is : (r : Option OutcomeOf) → is_none r ≡ true → r ≡ None
none-is None h = refl
none-is (Some o) h = absurd (cc h)

missing-none : (rules : List RuleOf) (M : Memory) (loads needed : List Load) (l : Load) → loads ≡ firsts (modes_of rules) (missing (read (modes_of rules) M) needed) → IsOneOf l loads → read (modes_of rules) M l ≡ None
missing-none rules M loads needed l e h =
    let modes : List KeyMode = modes_of rules in
    let among : IsOneOf l (missing (read modes M) needed) = firsts-one modes l (missing (read modes M) needed) (rw e at h) in
    none-is (read modes M l) (filter-one (λ m. is_none (read modes M m)) l needed among).1

-- each key that is asked is absent from the memory
pub absent : (rules : List RuleOf) (M : Memory) (loads : List Load) (c : Cell) → AreLimited rules → AreMissing (modes_of rules) M loads → IsOneOf c (order_cells (modes_of rules) (round_orders rules loads)) → M c.0 c.1 ≡ None
absent rules M loads c positive h one =
    let modes : List KeyMode = modes_of rules in
    let r = one-map (cell_of modes) c loads (orders-loads modes 0 rules loads c positive one) in
    ap (λ (d : Cell). M d.0 d.1) r.2 ∙ missing-none rules M loads h.0 r.0 h.1 r.1

pub together : (rules : List RuleOf) (M : Memory) (loads : List Load) → AreLimited rules → AreMissing (modes_of rules) M loads → AreApart (order_cells (modes_of rules) (round_orders rules loads))
together rules M loads positive h =
    orders-apart (modes_of rules) 0 rules loads positive (rw h.1 (firsts-apart (modes_of rules) (missing (read (modes_of rules) M) h.0)))

after_all : List RuleOf → Memory → List Step → Memory
after_all rules M [] = M
after_all rules M (step ∷ steps) = after_all rules (after rules M step) steps

neither : (a b : Bool) → (a || b) ≡ false → (a ≡ false) × (b ≡ false)
neither true b h = absurd (cc h)
neither false b h = (refl, h)

kept-step : (rules : List RuleOf) (c : Cell) (item : ItemOf) (M : Memory) (step : Step) → M c.0 c.1 ≡ Some (known item) → clears c step ≡ false → after rules M step c.0 c.1 ≡ Some (known item)
kept-step rules c item M Forgot e h = ap unless_failed e
kept-step rules c item M (AskedLoads loads replies) e h = rw e refl
kept-step rules c item M (Lost loads) e h = e
kept-step rules c item M (Primed pair) e h = rw e refl
kept-step rules c item M (Cleared d) e h = rw h e
kept-step rules c item M (ClearedAll loader) e h = rw h e
kept-step rules c item M Restarted e h = absurd (cc h)

-- an item stays until its key is cleared
kept : (rules : List RuleOf) (c : Cell) (item : ItemOf) (M : Memory) (steps : List Step) → M c.0 c.1 ≡ Some (known item) → list_any (clears c) steps ≡ false → after_all rules M steps c.0 c.1 ≡ Some (known item)
unfolding after_all
kept rules c item M [] e h = e
kept rules c item M (step ∷ steps) e h =
    let b = neither (clears c step) (list_any (clears c) steps) h in
    kept rules c item (after rules M step) steps (kept-step rules c item M step e b.0) b.1

module _ (may : ℕ → List KeyOf → AnswerOf → Type 0) where
  steps-after : (rules : List RuleOf) (M : Memory) (xs ys : List Step) → AreSteps may rules M (xs ++ ys) → AreSteps may rules (after_all rules M xs) ys
  unfolding after_all
  steps-after rules M [] ys h = h
  steps-after rules M (x ∷ xs) ys h = steps-after rules (after rules M x) xs ys h.1

  reply-for : (os : List OrderOf) (rs : List ReplyOf) (r : ReplyOf) → AreReplies may os rs → IsOneOf r rs → (o : OrderOf) × IsReply may o r
  reply-for [] [] r h i = absurd i
  reply-for [] (s ∷ rs) r h i = absurd h
  reply-for (o ∷ os) [] r h i = absurd h
  reply-for (o ∷ os) (s ∷ rs) r h (inl e) = (o, rw e h.0)
  reply-for (o ∷ os) (s ∷ rs) r h (inr i) = reply-for os rs r h.1 i

  not-known : (text : List ℕ) (items : List ItemOf) → IsOneOf (batch_fault text) (map known items) → ⊥
  not-known text [] h = h
  not-known text (item ∷ items) (inl e) = cc e
  not-known text (item ∷ items) (inr h) = not-known text items h

  -- a batch fault is that of the whole batch
  outcomes-failed : (text : List ℕ) (n : ℕ) (a : AnswerOf) → IsOneOf (batch_fault text) (outcomes_of n a) → (t : List ℕ) × (outcomes_of n a ≡ replicate n (batch_fault t))
  outcomes-failed text n (failed t) h = (t, refl)
  outcomes-failed text n (given items) h = go (length items == n) refl h
    where
      go : (b : Bool) → (length items == n) ≡ b → IsOneOf (batch_fault text) (if b then map known items else replicate n (batch_fault (wrong_count (length items) n)))
          → (t : List ℕ) × ((if length items == n then map known items else replicate n (batch_fault (wrong_count (length items) n))) ≡ replicate n (batch_fault t))
      go true e h = absurd (not-known text items h)
      go false e h = (wrong_count (length items) n, rw e refl)

  reply-failed : (o : OrderOf) (r : ReplyOf) (text : List ℕ) → IsReply may o r → IsOneOf (batch_fault text) r.outcomes → HasFailed r
  reply-failed o r text h i =
      let f = outcomes-failed text (length o.keys) h.answer (rw h.outcomes at i) in
      (f.0, rw h.keys (h.outcomes ∙ f.1))

  own-pair : (modes : List KeyMode) (n loader : ℕ) (key : KeyOf) (o : OutcomeOf) (keys : List KeyOf) (outcomes : List OutcomeOf) → IsOneOf (make loader key o) (reply_pairs (mode_at modes n) n keys outcomes) → IsOneOf (loader, key) (map (key_cell modes n) keys) × IsOneOf o outcomes
  own-pair modes n loader key o [] outcomes h = absurd h
  own-pair modes n loader key o (k ∷ ks) [] h = absurd h
  own-pair modes n loader key o (k ∷ ks) (x ∷ xs) (inl e) = (inl (ap (λ (p : PairOf). pair_cell p) e), inl (ap (λ (p : PairOf). p.outcome) e))
  own-pair modes n loader key o (k ∷ ks) (x ∷ xs) (inr h) = let r = own-pair modes n loader key o ks xs h in (inr r.0, inr r.1)

  some-value : (r : Option OutcomeOf) → IsSome r → (o : OutcomeOf) × (r ≡ Some o)
  some-value None h = absurd (cc h)
  some-value (Some o) h = (o, refl)

  -- says what a round asked has its outcome afterwards
  pub asked-outcome : (rules : List RuleOf) (M : Memory) (loads : List Load) (replies : List ReplyOf) (c : Cell) → AreLimited rules → IsStep may rules M (AskedLoads loads replies) → IsOneOf c (order_cells (modes_of rules) (round_orders rules loads))
      → (o : OutcomeOf) × (look (pairs_of (modes_of rules) replies) c.0 c.1 ≡ Some o) × (after rules M (AskedLoads loads replies) c.0 c.1 ≡ Some o)
  asked-outcome rules M loads replies c positive h one =
      let modes : List KeyMode = modes_of rules in
      let cells : map pair_cell (pairs_of modes replies) ≡ order_cells modes (round_orders rules loads) = replies-cells may modes (round_orders rules loads) replies h.1 in
      let p = one-map pair_cell c (pairs_of modes replies) (rw cells one) in
      let there : IsSome (look (pairs_of modes replies) p.0.loader p.0.key) = member-some p.0.loader p.0.key p.0.outcome (pairs_of modes replies) p.1 in
      let here : IsSome (look (pairs_of modes replies) c.0 c.1) = rw (ap (λ (d : Cell). look (pairs_of modes replies) d.0 d.1) p.2) there in
      let v = some-value (look (pairs_of modes replies) c.0 c.1) here in
      (v.0, v.1, ap (λ r. option_or r (look (pairs_of modes replies) c.0 c.1)) (absent rules M loads c positive h.0 one) ∙ v.1)

  failed-at : (rules : List RuleOf) (loads : List Load) (replies : List ReplyOf) (c : Cell) (text : List ℕ) → AreReplies may (round_orders rules loads) replies → look (pairs_of (modes_of rules) replies) c.0 c.1 ≡ Some (batch_fault text) → FailedAt (modes_of rules) c replies
  failed-at rules loads replies c text h e =
      let modes : List KeyMode = modes_of rules in
      let r = pairs-from modes (make c.0 c.1 (batch_fault text)) replies (look-member c.0 c.1 (batch_fault text) (pairs_of modes replies) e) in
      let o = reply-for (round_orders rules loads) replies r.0 h r.1 in
      let own = own-pair modes r.0.loader c.0 c.1 (batch_fault text) r.0.keys r.0.outcomes r.2 in
      (r.0, r.1, own.0, reply-failed o.0 r.0 text o.1 own.1)

  pub again : (rules : List RuleOf) (M : Memory) (first later : List Load) (replies others : List ReplyOf) (between : List Step) (c : Cell) → AreLimited rules → AreSteps may rules M (AskedLoads first replies ∷ (between ++ AskedLoads later others ∷ []))
      → IsOneOf c (order_cells (modes_of rules) (round_orders rules first)) → IsOneOf c (order_cells (modes_of rules) (round_orders rules later)) → IsAskedAgainRightly (modes_of rules) c replies between
  again rules M first later replies others between c positive h one two =
      let got = asked-outcome rules M first replies c positive h.0 one in
      let onward : AreSteps may rules (after_all rules (after rules M (AskedLoads first replies)) between) (AskedLoads later others ∷ []) = steps-after rules (after rules M (AskedLoads first replies)) between (AskedLoads later others ∷ []) h.1 in
      let none : after_all rules (after rules M (AskedLoads first replies)) between c.0 c.1 ≡ None = absent rules (after_all rules (after rules M (AskedLoads first replies)) between) later c positive onward.0.0 two in
      go got.0 got.1 got.2 none (list_any (clears c) between) refl
    where
      go : (o : OutcomeOf) → look (pairs_of (modes_of rules) replies) c.0 c.1 ≡ Some o → after rules M (AskedLoads first replies) c.0 c.1 ≡ Some o → after_all rules (after rules M (AskedLoads first replies)) between c.0 c.1 ≡ None
          → (b : Bool) → list_any (clears c) between ≡ b → IsAskedAgainRightly (modes_of rules) c replies between
      go o seen there none true e = inl e
      go (batch_fault text) seen there none false e = inr (failed-at rules first replies c text h.0.1 seen)
      go (known item) seen there none false e = absurd (cc (sym none ∙ kept rules c item (after rules M (AskedLoads first replies)) between there e))
