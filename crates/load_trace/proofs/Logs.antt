-- The rounds of a lawful log, in the logs of loaders.
use Rattle.std.proofs.Common.{◌≡◌, ◌≢◌, ℕ, zero, suc, ◌<◌, ◌≤◌, ◌+◌, max, Bool, true, false, List, [], ◌∷◌, ◌++◌, map, length, refl, ap, ◌∙◌, sym, subst, arith, append_assoc, append-nil}
use Rattle.std.proofs.lemmas.List.{map-append}
use Rattle.std.proofs.lemmas.List.Elements.{All-nil, All-cons, All-head, All-tail}
use Rattle.std.proofs.lemmas.Bool.{ne_eqb, eq-eqb}
use Rattle.std.specs.Prelude.{All, ◌==◌, if◌then◌else◌}
use Rattle.load_memory.specs.Keys.{KeyOf}
use Rattle.load_memory.specs.Replies.{ReplyOf}
use Rattle.load_queue.specs.Answers.{AnswerOf}
use Rattle.load_queue.specs.Batches.{batches}
use Rattle.load_queue.specs.Loaders.{LoaderOf, AskedOf, unasked}
use Rattle.load_queue.specs.Orders.{OrderOf, order_of}
use Rattle.execution.specs.Loads.{Load, Memory}
use Rattle.execution.specs.Program.{Program}
use Rattle.execution.specs.Front.{front, keys_for}
use Rattle.execution.specs.Rounds.{RuleOf, rule_of, modes_of, orders_from, round_orders, may_at, AreReplies, AreRounds, HasLoaders, after_round, without_failed}
use Rattle.execution.specs.Sessions.{AskedLoads}
use Rattle.load_rounds.specs.Sessions.{SessionOf, StateOf, rules_of, entry, logged_from, made, after_step, after_steps, AreNumbered, restarted, state_of}
use Rattle.load_rounds.specs.Headline.{asked_steps, MakesRounds}
use Rattle.load_rounds.proofs.Cutting.{rules-logged}
use Rattle.load_rounds.proofs.Numbering.{made-one, logged-numbered}
use Rattle.load_rounds.proofs.Runs.{front-orders}
use Rattle.load_trace.specs.Traces.{BatchOf, batch_of, batches_in, last_in, round_batches, rounds_upto, last_round, rounds_of}
use Rattle.load_trace.specs.Logs.{name_in, answered_rounds}

-- ---- the entries of one log

batches-append : (r : ℕ) (n : List ℕ) (xs ys : List AskedOf) → batches_in r n (xs ++ ys) ≡ batches_in r n xs ++ batches_in r n ys
batches-append r n [] ys = refl
batches-append r n (x ∷ xs) ys = go (x.round == r) (batches-append r n xs ys) where
  go : (b : Bool) → batches_in r n (xs ++ ys) ≡ batches_in r n xs ++ batches_in r n ys
      → (if b then batch_of n x.keys ∷ batches_in r n (xs ++ ys) else batches_in r n (xs ++ ys)) ≡ (if b then batch_of n x.keys ∷ batches_in r n xs else batches_in r n xs) ++ batches_in r n ys
  go true e = ap (λ bs. batch_of n x.keys ∷ bs) e
  go false e = e

none-later : (r m : ℕ) (n : List ℕ) (log : List AskedOf) → m < r → All (λ (a : AskedOf). a.round ≤ m) log → batches_in r n log ≡ []
none-later r m n [] lt h = refl
none-later r m n (a ∷ log) lt h =
    let first : a.round ≤ m = All-head (λ (a : AskedOf). a.round ≤ m) a log h in
    rw (ne_eqb a.round r (λ e. omega (arith, first, e, lt))) (none-later r m n log lt (All-tail (λ (a : AskedOf). a.round ≤ m) a log h))

own-batches : (r : ℕ) (n : List ℕ) (bs : List (List KeyOf)) → batches_in r n (map (entry true r) bs) ≡ map (batch_of n) bs
own-batches r n [] = refl
own-batches r n (b ∷ bs) = rw (eq-eqb r r refl) (ap (λ xs. batch_of n b ∷ xs) (own-batches r n bs))

other-batches : (r k : ℕ) (n : List ℕ) (bs : List (List KeyOf)) → k ≢ r → batches_in k n (map (entry true r) bs) ≡ []
other-batches r k n [] ne = refl
other-batches r k n (b ∷ bs) ne = rw (ne_eqb r k (λ e. ne (sym e))) (other-batches r k n bs ne)

last-below : (m : ℕ) (log : List AskedOf) → All (λ (a : AskedOf). a.round ≤ m) log → last_in log ≤ m
last-below m [] h = omega arith
last-below m (a ∷ log) h =
    let first : a.round ≤ m = All-head (λ (a : AskedOf). a.round ≤ m) a log h in
    let rest = last-below m log (All-tail (λ (a : AskedOf). a.round ≤ m) a log h) in
    omega (arith, first, rest)

last-own : (r : ℕ) (log : List AskedOf) (b : List KeyOf) (bs : List (List KeyOf)) → r ≤ last_in (log ++ map (entry true r) (b ∷ bs))
last-own r [] b bs = omega arith
last-own r (a ∷ log) b bs = let rest = last-own r log b bs in omega (arith, rest)

-- ---- the logs of all loaders

-- the loaders from a number on have these names
abbrev Names : {S : Type 0} → (ℕ → List ℕ) → ℕ → List (LoaderOf S) → Type 0
Names name n [] = Unit {0}
Names name n (l ∷ ls) = (name n ≡ l.name) × Names name (suc n) ls

abbrev named : (ℕ → List ℕ) → OrderOf → BatchOf
named name o = batch_of (name o.loader) o.keys

by-order : (name : ℕ → List ℕ) (n : ℕ) (own : List ℕ) (bs : List (List KeyOf)) → name n ≡ own → map (batch_of own) bs ≡ map (named name) (map (order_of n) bs)
by-order name n own [] e = refl
by-order name n own (b ∷ bs) e = ap (λ x. batch_of x b ∷ map (batch_of own) bs) (sym e) ∙ ap (λ xs. batch_of (name n) b ∷ xs) (by-order name n own bs e)

-- the batch that was answered by this reply
abbrev batch : (ℕ → List ℕ) → ReplyOf → BatchOf
batch name r = batch_of (name r.loader) r.keys

replies-named : (may : ℕ → List KeyOf → AnswerOf → Type 0) (name : ℕ → List ℕ) (os : List OrderOf) (rs : List ReplyOf) → AreReplies may os rs → map (batch name) rs ≡ map (named name) os
replies-named may name [] [] h = refl
replies-named may name [] (r ∷ rs) h = absurd h
replies-named may name (o ∷ os) [] h = absurd h
replies-named may name (o ∷ os) (r ∷ rs) h =
    ap (λ i. batch_of (name i) r.keys ∷ map (batch name) rs) h.0.loader
    ∙ ap (λ ks. batch_of (name o.loader) ks ∷ map (batch name) rs) h.0.keys
    ∙ ap (λ xs. named name o ∷ xs) (replies-named may name os rs h.1)

module _ {S : Type 0} where
  names-shift : (f g : ℕ → List ℕ) → ((i : ℕ) → g (suc i) ≡ f i) → (n : ℕ) (ls : List (LoaderOf S)) → Names f n ls → Names g (suc n) ls
  names-shift f g e n [] is = tt
  names-shift f g e n (l ∷ ls) is = (e n ∙ is.0, names-shift f g e (suc n) ls is.1)

  names-are : (ls : List (LoaderOf S)) → Names (name_in ls) 0 ls
  names-are [] = tt
  names-are (l ∷ ls) = (refl, names-shift (name_in ls) (name_in (l ∷ ls)) (λ i. refl) 0 ls (names-are ls))

  names-unasked : (name : ℕ → List ℕ) (n : ℕ) (ls : List (LoaderOf S)) → Names name n ls → Names name n (map unasked ls)
  names-unasked name n [] is = tt
  names-unasked name n (l ∷ ls) is = (is.0, names-unasked name (suc n) ls is.1)

  names-logged : (name : ℕ → List ℕ) (n r : ℕ) (keys : ℕ → List KeyOf) (ls : List (LoaderOf S)) → Names name n ls → Names name n (logged_from n true r keys ls)
  names-logged name n r keys [] is = tt
  names-logged name n r keys (l ∷ ls) is = (is.0, names-logged name (suc n) r keys ls is.1)

  length-logged : (n r : ℕ) (keys : ℕ → List KeyOf) (ls : List (LoaderOf S)) → length (logged_from n true r keys ls) ≡ length ls
  length-logged n r keys [] = refl
  length-logged n r keys (l ∷ ls) = ap suc (length-logged (suc n) r keys ls)

  length-unasked : (ls : List (LoaderOf S)) → length (map unasked ls) ≡ length ls
  length-unasked [] = refl
  length-unasked (l ∷ ls) = ap suc (length-unasked ls)

  unasked-numbered : (ls : List (LoaderOf S)) → AreNumbered 0 (map unasked ls)
  unasked-numbered [] = All-nil (λ (l : LoaderOf S). All (λ (a : AskedOf). a.round ≤ 0) l.log)
  unasked-numbered (l ∷ ls) = All-cons (λ (l : LoaderOf S). All (λ (a : AskedOf). a.round ≤ 0) l.log) (unasked l) (map unasked ls) (All-nil (λ (a : AskedOf). a.round ≤ 0)) (unasked-numbered ls)

  unasked-last : (ls : List (LoaderOf S)) → last_round (map unasked ls) ≡ 0
  unasked-last [] = refl
  unasked-last (l ∷ ls) = let rest = unasked-last ls in omega (arith, rest)

  all-below : (m : ℕ) (ls : List (LoaderOf S)) → AreNumbered m ls → last_round ls ≤ m
  all-below m [] h = omega arith
  all-below m (l ∷ ls) h =
      let first = last-below m l.log (All-head (λ (l : LoaderOf S). All (λ (a : AskedOf). a.round ≤ m) l.log) l ls h) in
      let rest = all-below m ls (All-tail (λ (l : LoaderOf S). All (λ (a : AskedOf). a.round ≤ m) l.log) l ls h) in
      omega (arith, first, rest)

  -- a round that makes an order is the latest
  some-last : (n r : ℕ) (loads : List Load) (ls : List (LoaderOf S)) → orders_from n (map rule_of ls) loads ≢ [] → r ≤ last_round (logged_from n true r (λ i. keys_for i loads) ls)
  some-last n r loads [] ne = absurd (ne refl)
  some-last n r loads (l ∷ ls) ne = go (some-last (suc n) r loads ls) (batches l.limit (keys_for n loads)) ne where
    go : (orders_from (suc n) (map rule_of ls) loads ≢ [] → r ≤ last_round (logged_from (suc n) true r (λ i. keys_for i loads) ls)) → (bs : List (List KeyOf)) → map (order_of n) bs ++ orders_from (suc n) (map rule_of ls) loads ≢ []
        → r ≤ max (last_in (l.log ++ map (entry true r) bs)) (last_round (logged_from (suc n) true r (λ i. keys_for i loads) ls))
    go others [] some = let rest = others some in omega (arith, rest)
    go others (b ∷ bs) some = let own = last-own r l.log b bs in omega (arith, own)

  -- an earlier round is as it was
  earlier-round : (r k n : ℕ) (keys : ℕ → List KeyOf) (ls : List (LoaderOf S)) → k ≢ r → round_batches k (logged_from n true r keys ls) ≡ round_batches k ls
  earlier-round r k n keys [] ne = refl
  earlier-round r k n keys (l ∷ ls) ne =
      let new = batches l.limit (keys n) in
      let old = batches_in k l.name l.log in
      let own : batches_in k l.name (l.log ++ map (entry true r) new) ≡ old =
      batches-append k l.name l.log (map (entry true r) new) ∙ ap (λ bs. old ++ bs) (other-batches r k l.name new ne) ∙ append-nil old in
      ap (λ bs. bs ++ round_batches k (logged_from (suc n) true r keys ls)) own ∙ ap (λ bs. old ++ bs) (earlier-round r k (suc n) keys ls ne)

  earlier-rounds : (r k : ℕ) (keys : ℕ → List KeyOf) (ls : List (LoaderOf S)) → k < r → rounds_upto k (logged_from 0 true r keys ls) ≡ rounds_upto k ls
  earlier-rounds r zero keys ls lt = refl
  earlier-rounds r (suc k) keys ls lt =
      ap (λ rs. rs ++ round_batches (suc k) (logged_from 0 true r keys ls) ∷ []) (earlier-rounds r k keys ls (omega (arith, lt)))
      ∙ ap (λ x. rounds_upto k ls ++ x ∷ []) (earlier-round r (suc k) 0 keys ls (λ e. omega (arith, lt, e)))

  -- the new round has the orders that were made
  new-round : (r m n : ℕ) (name : ℕ → List ℕ) (loads : List Load) (ls : List (LoaderOf S)) → m < r → Names name n ls → AreNumbered m ls
      → round_batches r (logged_from n true r (λ i. keys_for i loads) ls) ≡ map (named name) (orders_from n (map rule_of ls) loads)
  new-round r m n name loads [] lt is h = refl
  new-round r m n name loads (l ∷ ls) lt is h =
      let new = batches l.limit (keys_for n loads) in
      let before = none-later r m l.name l.log lt (All-head (λ (l : LoaderOf S). All (λ (a : AskedOf). a.round ≤ m) l.log) l ls h) in
      let own : batches_in r l.name (l.log ++ map (entry true r) new) ≡ map (named name) (map (order_of n) new) =
      batches-append r l.name l.log (map (entry true r) new) ∙ ap (λ bs. bs ++ batches_in r l.name (map (entry true r) new)) before ∙ own-batches r l.name new ∙ by-order name n l.name new is.0 in
      let rest = new-round r m (suc n) name loads ls lt is.1 (All-tail (λ (l : LoaderOf S). All (λ (a : AskedOf). a.round ≤ m) l.log) l ls h) in
      ap (λ bs. bs ++ round_batches r (logged_from (suc n) true r (λ i. keys_for i loads) ls)) own
      ∙ ap (λ bs. map (named name) (map (order_of n) new) ++ bs) rest
      ∙ sym (map-append (named name) (map (order_of n) new) (orders_from (suc n) (map rule_of ls) loads))

-- ---- round by round

module _ {S : Type 0} (may : ℕ → List KeyOf → AnswerOf → Type 0) (rules : List RuleOf) (p : Program) (count : ℕ) (within : HasLoaders count p) (name : ℕ → List ℕ) where
  -- properties of a state between rounds
  record Between (s : StateOf S) : Type 0 where
    rules_are : rules_of s ≡ rules
    enough : count ≤ length s.loaders
    numbered : AreNumbered s.rounds s.loaders
    latest : last_round s.loaders ≡ s.rounds
    names : Names name 0 s.loaders

  module _ (s : StateOf S) (M : Memory) (round : List ReplyOf) (is : Between s) (some : front (modes_of rules) p M ≢ []) where
    abbrev loads : List Load
    loads = front (modes_of rules) p M

    abbrev next : StateOf S
    next = after_step s (AskedLoads loads round)

    orders-made : round_orders (rules_of s) loads ≢ []
    orders-made =
        let here : StateOf S = record s { memory = M } in
        let made : front (modes_of (rules_of s)) p M ≢ [] → round_orders (rules_of s) (front (modes_of (rules_of s)) p M) ≢ [] = front-orders here p count within is.enough in
        (subst (λ rs. front (modes_of rs) p M ≢ [] → round_orders (rules_of s) (front (modes_of rs) p M) ≢ []) is.rules_are made) some

    counted : next.rounds ≡ suc s.rounds
    counted = let one = made-one (round_orders (rules_of s) loads) orders-made in omega (arith, one)

    next-numbered : AreNumbered next.rounds next.loaders
    next-numbered = logged-numbered true (s.rounds + 1) s.rounds next.rounds 0 (λ n. keys_for n loads) s.loaders (omega (arith, counted)) (λ _. omega (arith, counted)) is.numbered

    next-latest : last_round next.loaders ≡ next.rounds
    next-latest =
        let most = all-below next.rounds next.loaders next-numbered in
        let least = some-last 0 (s.rounds + 1) loads s.loaders orders-made in
        omega (arith, most, least, counted)

    next-between : Between next
    next-between = record {
      rules_are = rules-logged true (s.rounds + 1) 0 (λ n. keys_for n loads) s.loaders ∙ is.rules_are;
      enough = let same = length-logged 0 (s.rounds + 1) (λ n. keys_for n loads) s.loaders in let was = is.enough in omega (arith, same, was);
      numbered = next-numbered;
      latest = next-latest;
      names = names-logged name 0 (s.rounds + 1) (λ n. keys_for n loads) s.loaders is.names;
    }

    one-more : AreReplies may (round_orders rules loads) round → rounds_of next.loaders ≡ rounds_of s.loaders ++ map (batch name) round ∷ []
    one-more replies =
        let k : ℕ = s.rounds in
        let after : s.rounds + 1 ≡ suc k = omega arith in
        let last : last_round next.loaders ≡ suc k = next-latest ∙ counted in
        let less : k < s.rounds + 1 = omega arith in
        let new : round_batches (suc k) next.loaders ≡ map (batch name) round =
        ap (λ n. round_batches n next.loaders) (sym after) ∙ new-round (s.rounds + 1) k 0 name loads s.loaders less is.names is.numbered
        ∙ ap (λ rs. map (named name) (round_orders rs loads)) is.rules_are ∙ sym (replies-named may name (round_orders rules loads) round replies) in
        let old : rounds_upto k next.loaders ≡ rounds_upto k s.loaders = earlier-rounds (s.rounds + 1) k (λ n. keys_for n loads) s.loaders less in
        ap (λ n. rounds_upto n next.loaders) last ∙ ap (λ rs. rs ++ round_batches (suc k) next.loaders ∷ []) old ∙ ap (λ x. rounds_upto k s.loaders ++ x ∷ []) new
        ∙ ap (λ n. rounds_upto n s.loaders ++ map (batch name) round ∷ []) (sym is.latest)

  all-rounds : (log : List (List ReplyOf)) (s : StateOf S) (M end : Memory) → Between s → AreRounds may rules p M log end
      → rounds_of (after_steps s (asked_steps rules p M log)).loaders ≡ rounds_of s.loaders ++ map (map (batch name)) log
  all-rounds [] s M end is h = sym (append-nil (rounds_of s.loaders))
  all-rounds (round ∷ log) s M end is (some, replies, more) =
      let rest = all-rounds log (next s M round is some) (after_round rules M round) end (next-between s M round is some) more in
      rest ∙ ap (λ rs. rs ++ map (map (batch name)) log) (one-more s M round is some replies) ∙ append_assoc (rounds_of s.loaders) (map (batch name) round ∷ []) (map (map (batch name)) log)

module _ {S : Type 0} (may : S → List KeyOf → AnswerOf → Type 0) (session : SessionOf S) (new : StateOf S) (p : Program) (log : List (List ReplyOf)) where
  abbrev old : StateOf S
  old = state_of (restarted session)

  abbrev begun : StateOf S
  begun = record old { memory = without_failed old.memory }

  pub tells-log : HasLoaders (length session.loaders) p → MakesRounds may old new p log → rounds_of new.loaders ≡ answered_rounds session.loaders log
  tells-log within made =
      let fresh = unasked-last session.loaders in
      let is : Between (may_at may old.loaders) (rules_of old) p (length session.loaders) within (name_in session.loaders) begun = record {
        rules_are = refl;
        enough = let same = length-unasked session.loaders in omega (arith, same);
        numbered = unasked-numbered session.loaders;
        latest = fresh;
        names = names-unasked (name_in session.loaders) 0 session.loaders (names-are session.loaders);
      } in
      ap (λ (t : StateOf S). rounds_of t.loaders) made.after
      ∙ all-rounds (may_at may old.loaders) (rules_of old) p (length session.loaders) within (name_in session.loaders) log begun (without_failed old.memory) new.memory is made.rounds
      ∙ ap (λ n. rounds_upto n begun.loaders ++ answered_rounds session.loaders log) fresh
