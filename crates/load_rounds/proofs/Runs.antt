-- Calls of a run, and what they add to what was done since it was begun.
use Rattle.std.proofs.Common.{◌≡◌, ◌≢◌, ◌<◌, ◌≤◌, ◌+◌, ℕ, suc, Bool, true, false, List, [], ◌∷◌, ◌++◌, map, length, Option, Some, None, refl, ap, ◌∙◌, sym, arith, inl, inr, ◌⊎◌, Result, Ok, Err}
use Rattle.std.proofs.lemmas.Bool.{eq-eqb, eqb-true, eqb-false}
use Rattle.std.proofs.lemmas.List.{length-map}
use Rattle.std.proofs.lemmas.List.Elements.{All-nil, All-cons, All-head, All-tail}
use Rattle.std.proofs.lemmas.List.Sorted.{All-permutation}
use Rattle.std.specs.Prelude.{All, slice_get, ◌==◌, if◌then◌else◌, IfOk, OnOk, IsPermutation}
use Rattle.load_memory.specs.Keys.{KeyOf}
use Rattle.load_memory.specs.Pairs.{MemoryOf, look, IsWith}
use Rattle.load_memory.specs.Replies.{ReplyOf, pairs_of}
use Rattle.load_queue.specs.Answers.{AnswerOf}
use Rattle.load_queue.specs.Batches.{batches}
use Rattle.load_queue.specs.Loaders.{LoaderOf, AskedOf, marked, stored_in}
use Rattle.load_queue.specs.Orders.{CutOf, order_of, asks}
use Rattle.execution.specs.Loads.{Load, Memory, IsOneOf, read}
use Rattle.execution.specs.Program.{Program}
use Rattle.execution.specs.Front.{front, keys_for}
use Rattle.execution.specs.Rounds.{RuleOf, rule_of, modes_of, orders_from, round_orders, may_at, AreReplies, AreLimited, HasLoaders, after_round, without_failed}
use Rattle.execution.specs.Sessions.{Forgot, AskedLoads, Lost}
use Rattle.execution.proofs.ChainLaws.{front-needs}
use Rattle.execution.proofs.ReplyLaws.{reply-order}
use Rattle.load_rounds.specs.Sessions.{StateOf, rules_of, session_modes, logged_from, made, of_first, after_step, after_steps, AreNumbered, IsSession}
use Rattle.load_rounds.specs.Rounds.{Enters}
use Rattle.load_rounds.specs.Calls.{RoundRan, RoundLost}
use Rattle.load_rounds.specs.Headline.{asked_steps, StopsAnswering}
use Rattle.load_rounds.specs.ByHand.{AreReceived, front_in, orders_in, received, IsRound, IsAsked, IsBetween, IsOut}
use Rattle.load_rounds.proofs.Following.{SameSources, InRounds}
use Rattle.load_rounds.proofs.Stepping.{made-recorded, end-recorded}
use Rattle.load_rounds.proofs.Cutting.{rules-logged, logged-same, orders-same, first-some}
use Rattle.load_rounds.proofs.Numbering.{made-one, marked-round, source-at, replies-before, replies-below, orders-below, orders-loads, keys-first}
use Rattle.load_rounds.proofs.States.{state, state-is, same-memory, wanted-orders, wanted-logged}

pub if-ok : {T E : Type 0} {P Q : T → Type 0} (r : Result T E) → ((x : T) → P x → Q x) → IfOk r P → IfOk r Q
if-ok (Ok x) f h = f x h
if-ok (Err e) f h = tt

pub on-ok : {T E P Q : Type 0} (r : Result T E) → (P → Q) → OnOk r P → OnOk r Q
on-ok (Ok x) f h = f h
on-ok (Err e) f h = tt

-- steps change no loader but for its log
module _ {S : Type 0} (rules : List RuleOf) (p : Program) where
  pub steps-rules : (s : StateOf S) (M : Memory) (log : List (List ReplyOf)) → rules_of (after_steps s (asked_steps rules p M log)) ≡ rules_of s
  steps-rules s M [] = refl
  steps-rules s M (r ∷ log) =
      steps-rules (after_step s (AskedLoads (front (modes_of rules) p M) r)) (after_round rules M r) log ∙ rules-logged true (s.rounds + 1) 0 (λ n. keys_for n (front (modes_of rules) p M)) s.loaders

  steps-sources : (s : StateOf S) (M : Memory) (log : List (List ReplyOf)) → SameSources s.loaders (after_steps s (asked_steps rules p M log)).loaders
  steps-sources s M [] i x at = (x, at, refl)
  steps-sources s M (r ∷ log) i x at =
      let there = steps-sources (after_step s (AskedLoads (front (modes_of rules) p M) r)) (after_round rules M r) log i x at in
      let first = source-at true (s.rounds + 1) (λ n. keys_for n (front (modes_of rules) p M)) 0 s.loaders i there.0 there.1 in
      (first.0, first.1, there.2 ∙ first.2)

-- the orders of something that is needed and missing
left-some : {X : Type 0} (xs ys : List X) → xs ≢ [] → xs ++ ys ≢ []
left-some [] ys ne = absurd (ne refl)
left-some (x ∷ xs) ys ne = λ e. absurd (cc e)

right-some : {X : Type 0} (xs ys : List X) → ys ≢ [] → xs ++ ys ≢ []
right-some [] ys ne = ne
right-some (x ∷ xs) ys ne = λ e. absurd (cc e)

some-orders : (n : ℕ) (limit : Option ℕ) (keys : List KeyOf) → keys ≢ [] → map (order_of n) (batches limit keys) ≢ []
some-orders n limit [] ne = absurd (ne refl)
some-orders n None (k ∷ ks) ne = λ e. absurd (cc e)
some-orders n (Some m) (k ∷ ks) ne = λ e. absurd (cc e)

pub orders-some : (n m : ℕ) (rules : List RuleOf) (loads : List Load) → n ≤ m → m < n + length rules → keys_for m loads ≢ [] → orders_from n rules loads ≢ []
orders-some n m [] loads le lt ne = absurd (omega (arith, le, lt))
orders-some n m (r ∷ rs) loads le lt ne = go (n == m) refl (λ other. orders-some (suc n) m rs loads (omega (arith, le, other)) (omega (arith, lt)) ne) where
  go : (b : Bool) → (n == m) ≡ b → (n ≢ m → orders_from (suc n) rs loads ≢ []) → orders_from n (r ∷ rs) loads ≢ []
  go true e rest =
      let own : keys_for n loads ≢ [] = λ h. ne (ap (λ i. keys_for i loads) (sym (eqb-true n m e)) ∙ h) in
      left-some (map (order_of n) (batches r.limit (keys_for n loads))) (orders_from (suc n) rs loads) (some-orders n r.limit (keys_for n loads) own)
  go false e rest = right-some (map (order_of n) (batches r.limit (keys_for n loads))) (orders_from (suc n) rs loads) (rest (eqb-false n m e))

pub head-key : (l : Load) (ls : List Load) → keys_for l.loader (l ∷ ls) ≢ []
head-key l ls = λ h. let own = rw (eq-eqb l.loader l.loader refl) at h in absurd (cc own)

module _ {S : Type 0} where
  pub front-orders : (s : StateOf S) (p : Program) (loaders : ℕ) → HasLoaders loaders p → loaders ≤ length s.loaders → front_in s p ≢ [] → orders_in s p ≢ []
  front-orders s p loaders within enough ne = go (front_in s p) refl where
    go : (ls : List Load) → front_in s p ≡ ls → round_orders (rules_of s) ls ≢ []
    go [] e = absurd (ne e)
    go (l ∷ ls) e =
        let one : IsOneOf l (front_in s p) = rw e (inl refl) in
        let below : l.loader < loaders = within (read (session_modes s) s.memory) l (front-needs (session_modes s) p s.memory l one) in
        orders-some 0 l.loader (rules_of s) (l ∷ ls) (omega arith) (omega (arith, below, enough, length-map s.loaders rule_of)) (head-key l ls)

  -- so the round is counted
  pub round-counted : (s new : StateOf S) (p : Program) (loaders : ℕ) → HasLoaders loaders p → loaders ≤ length s.loaders → front_in s p ≢ [] → new ≡ after_step s (Lost (front_in s p)) → new.rounds ≡ s.rounds + 1
  round-counted s new p loaders within enough ne entered =
      let one = made-one (round_orders (rules_of s) (front_in s p)) (front-orders s p loaders within enough ne) in
      ap (λ (t : StateOf S). t.rounds) entered ∙ ap (λ n. s.rounds + n) one

  -- a lost round, all of whose batches were entered
  pub lost-all : (b : StateOf S) (loads : List Load) → after_step b (Lost loads) ≡ after_step b (Lost (of_first (length b.loaders) loads))
  lost-all b loads =
      let N : ℕ = length b.loaders in
      let rules : List RuleOf = rules_of b in
      let own : (m : ℕ) → m < N → keys_for m loads ≡ keys_for m (of_first N loads) = λ m lt. sym (keys-first N m loads ∙ first-some (λ l. keys_for l loads) N m lt) in
      let same = orders-same 0 (λ m. keys_for m loads) (λ m. keys_for m (of_first N loads)) rules (λ m le lt. own m (omega (arith, lt, length-map b.loaders rule_of))) in
      let orders : round_orders rules loads ≡ round_orders rules (of_first N loads) = sym (orders-loads 0 rules loads) ∙ same ∙ orders-loads 0 rules (of_first N loads) in
      let logs = logged-same false (b.rounds + 1) 0 (λ m. keys_for m loads) (λ m. keys_for m (of_first N loads)) b.loaders (λ m le lt. own m (omega (arith, lt))) in
      state-is (logged_from 0 false (b.rounds + 1) (λ m. keys_for m loads) b.loaders) (logged_from 0 false (b.rounds + 1) (λ m. keys_for m (of_first N loads)) b.loaders) b.memory b.memory (b.rounds + made (round_orders rules loads)) (b.rounds + made (round_orders rules (of_first N loads)))
      logs refl (ap (λ os. b.rounds + made os) orders)

  pub lost-rules : (b : StateOf S) (loads : List Load) → rules_of (after_step b (Lost loads)) ≡ rules_of b
  lost-rules b loads = rules-logged false (b.rounds + 1) 0 (λ n. keys_for n loads) b.loaders

  -- the orders of a round that is out are still the batches of all that is needed and missing
  pub round-orders : (p : Program) (old new : StateOf S) (orders : List CutOf) → IsRound p old new orders → orders_in new p ≡ map asks orders
  round-orders p old new orders is =
      let loads : List Load = front_in old p in
      ap (λ (t : StateOf S). orders_in t p) is.entered ∙ ap (λ rs. round_orders rs (front (modes_of rs) p old.memory)) (lost-rules old loads) ∙ sym is.batches

  -- the session is as that round left it
  pub round-asked : (p : Program) (old new : StateOf S) (orders : List CutOf) → IsRound p old new orders → IsAsked p new
  round-asked p old new orders is = record { before = old; lacks = is.lacks; entered = is.entered; counted = is.counted; numbered = is.numbered }

  -- marks change no rule and no number
  pub marked-rules : (round : ℕ) (ls : List (LoaderOf S)) → map rule_of (map (λ l. stored_in l round) ls) ≡ map rule_of ls
  marked-rules round [] = refl
  marked-rules round (l ∷ ls) = ap (λ rs. rule_of l ∷ rs) (marked-rules round ls)

  pub marked-numbered : (round rounds : ℕ) (ls : List (LoaderOf S)) → AreNumbered rounds ls → AreNumbered rounds (map (λ l. stored_in l round) ls)
  marked-numbered round rounds [] h = All-nil (λ (l : LoaderOf S). All (λ (a : AskedOf). a.round ≤ rounds) l.log)
  marked-numbered round rounds (l ∷ ls) h =
      All-cons (λ (l : LoaderOf S). All (λ (a : AskedOf). a.round ≤ rounds) l.log) (stored_in l round) (map (λ l. stored_in l round) ls)
      (log l.log (All-head (λ (l : LoaderOf S). All (λ (a : AskedOf). a.round ≤ rounds) l.log) l ls h))
      (marked-numbered round rounds ls (All-tail (λ (l : LoaderOf S). All (λ (a : AskedOf). a.round ≤ rounds) l.log) l ls h))
    where
      one : (a : AskedOf) (b : Bool) → a.round ≤ rounds → (if b then record a { stored = true } else a).round ≤ rounds
      one a true le = le
      one a false le = le

      log : (es : List AskedOf) → All (λ (a : AskedOf). a.round ≤ rounds) es → All (λ (a : AskedOf). a.round ≤ rounds) (map (marked round) es)
      log [] h = All-nil (λ (a : AskedOf). a.round ≤ rounds)
      log (a ∷ es) h =
          All-cons (λ (a : AskedOf). a.round ≤ rounds) (marked round a) (map (marked round) es) (one a (a.round == round) (All-head (λ (a : AskedOf). a.round ≤ rounds) a es h)) (log es (All-tail (λ (a : AskedOf). a.round ≤ rounds) a es h))

  -- the fields of a session once the replies to its latest round are stored
  pub received-session : (rounds : ℕ) (old new : List (LoaderOf S)) (memory later : MemoryOf) → IsSession old memory rounds → later.modes ≡ memory.modes → new ≡ map (λ l. stored_in l rounds) old → IsSession new later rounds
  received-session rounds old new memory later is same marks =
      let rules : map rule_of new ≡ map rule_of old = ap (map rule_of) marks ∙ marked-rules rounds old in
      record { modes = same ∙ is.modes ∙ ap modes_of (sym rules); limited = rw rules is.limited; numbered = rw marks (marked-numbered rounds rounds old is.numbered) }

  pub received-state : (rounds : ℕ) (old new : List (LoaderOf S)) (memory later : MemoryOf) (shown : List ReplyOf) → IsSession old memory rounds → IsWith memory.pairs (pairs_of memory.modes shown) later.pairs → new ≡ map (λ l. stored_in l rounds) old
      → state new (look later.pairs) rounds ≡ received (state old (look memory.pairs) rounds) shown
  received-state rounds old new memory later shown is kept marks =
      let memories = same-memory (look later.pairs) (after_round (map rule_of old) (look memory.pairs) shown) (λ l k. rw (← is.modes) (kept l k)) in
      state-is new (map (λ l. stored_in l rounds) old) (look later.pairs) (after_round (map rule_of old) (look memory.pairs) shown) rounds rounds marks memories refl

  -- in whatever order the replies are
  pub received-moved : (may : ℕ → List KeyOf → AnswerOf → Type 0) (s : StateOf S) (p : Program) (replies shown : List ReplyOf) → AreLimited (rules_of s) → AreReplies may (orders_in s p) replies → IsPermutation replies shown → received s shown ≡ received s replies
  received-moved may s p replies shown limited fit moved =
      ap (λ (M : Memory). state (map (λ l. stored_in l s.rounds) s.loaders) M s.rounds) (same-memory (after_round (rules_of s) s.memory shown) (after_round (rules_of s) s.memory replies) (λ l k. reply-order may (rules_of s) p s.memory replies shown limited fit moved l k))

  -- a round whose batches were entered
  pub cut-state : (keys : ℕ → List KeyOf) (loads : List Load) (old new : List (LoaderOf S)) (M : Memory) (round before rounds : ℕ) → ((m : ℕ) → m < length old → keys m ≡ keys_for m loads) → round ≡ before + 1 → Enters round keys old new before rounds
      → state new M rounds ≡ after_step (state old M before) (Lost loads)
  cut-state keys loads old new M round before rounds wanted next h =
      let logs = h.loaders ∙ wanted-logged keys loads old wanted false round ∙ ap (λ n. logged_from 0 false n (λ m. keys_for m loads) old) next in
      state-is new (logged_from 0 false (before + 1) (λ m. keys_for m loads) old) M M rounds (before + made (round_orders (map rule_of old) loads)) logs refl (h.rounds ∙ ap (λ os. before + made os) (wanted-orders keys loads old wanted))

  -- a round whose batches were entered, and then its replies stored, was run
  pub received-is : (b s : StateOf S) (loads : List Load) (shown replies : List ReplyOf) → s ≡ after_step b (Lost loads) → s.rounds ≡ b.rounds + 1 → AreNumbered b.rounds b.loaders → after_round (rules_of s) s.memory shown ≡ after_round (rules_of b) b.memory replies
      → received s shown ≡ after_step b (AskedLoads loads replies)
  received-is b s loads shown replies is counted numbered memory =
      let keys = λ (n : ℕ). keys_for n loads in
      let logs = ap (λ r. map (λ l. stored_in l r) s.loaders) counted ∙ ap (λ (t : StateOf S). map (λ l. stored_in l (b.rounds + 1)) t.loaders) is ∙ marked-round (b.rounds + 1) b.rounds 0 keys b.loaders (omega arith) numbered in
      state-is (map (λ l. stored_in l s.rounds) s.loaders) (logged_from 0 true (b.rounds + 1) keys b.loaders) (after_round (rules_of s) s.memory shown) (after_round (rules_of b) b.memory replies) s.rounds (b.rounds + made (round_orders (rules_of b) loads))
      logs memory (ap (λ (t : StateOf S). t.rounds) is)

  module _ (may : S → List KeyOf → AnswerOf → Type 0) (p : Program) where
    pub between-in : (begun now : StateOf S) (rounds : ℕ) → IsBetween may p begun now rounds → InRounds may begun now p rounds
    between-in begun now rounds is =
        let rules : List RuleOf = rules_of begun in
        let M0 : Memory = without_failed begun.memory in
        let was : StateOf S = after_step begun Forgot in
        record {
          log = is.log;
          made = is.made;
          counted = is.counted;
          rules = ap rules_of is.made.after ∙ steps-rules rules p was M0 is.log;
          sources = λ i x at. steps-sources rules p was M0 is.log i x (ap (λ (s : StateOf S). slice_get s.loaders i) (sym is.made.after) ∙ at);
        }

    -- want of memory between rounds
    pub between-stops : (begun now new : StateOf S) (rounds : ℕ) → IsBetween may p begun now rounds → (new ≡ now) ⊎ RoundLost now new (front_in now p) → StopsAnswering may begun new p
    between-stops begun now new rounds is end = record {
      log = is.log;
      mid = now;
      made = is.made;
      end = go end;
      recorded = end-recorded begun now new (front (session_modes begun) p now.memory) (made-recorded may begun now p is.log is.made) (go end);
    } where
      same : session_modes now ≡ session_modes begun
      same = ap modes_of (InRounds.rules (between-in begun now rounds is))

      go : (new ≡ now) ⊎ RoundLost now new (front_in now p) → (new ≡ now) ⊎ RoundLost now new (front (session_modes begun) p now.memory)
      go (inl e) = inl e
      go (inr lost) = inr (rw (ap (λ ms. front ms p now.memory) same) at lost)

    -- the latest round is out
    module _ (s : StateOf S) (is : IsAsked p s) where
      pub asked-rules : rules_of s ≡ rules_of is.before
      asked-rules = ap rules_of is.entered ∙ lost-rules is.before (front_in is.before p)

      asked-memory : s.memory ≡ is.before.memory
      asked-memory = ap (λ (t : StateOf S). t.memory) is.entered

      asked-front : front_in s p ≡ front_in is.before p
      asked-front = ap (λ rs. front (modes_of rs) p s.memory) asked-rules ∙ ap (λ (M : Memory). front (session_modes is.before) p M) asked-memory

      asked-orders : round_orders (rules_of s) (front_in s p) ≡ round_orders (rules_of is.before) (front_in is.before p)
      asked-orders = ap (λ rs. round_orders rs (front_in s p)) asked-rules ∙ ap (λ ls. round_orders (rules_of is.before) ls) asked-front

      -- the replies to it, in whatever order
      pub asked-ran : (shown : List ReplyOf) → AreLimited (rules_of s) → AreReceived (may_at may s.loaders) (orders_in s p) shown → RoundRan may is.before (received s shown) (front_in is.before p)
      asked-ran shown limited h =
          let b : StateOf S = is.before in
          let loads : List Load = front_in b p in
          let moved = received-moved (may_at may s.loaders) s p h.replies shown limited h.fit h.moved in
          let memory = ap (λ (t : StateOf S). t.memory) moved ∙ ap (λ rs. after_round rs s.memory h.replies) asked-rules ∙ ap (λ (M : Memory). after_round (rules_of b) M h.replies) asked-memory in
          let fit : AreReplies (may_at may s.loaders) (round_orders (rules_of b) loads) h.replies = rw asked-orders at h.fit in
          let report : AreReplies (may_at may (after_step b (Lost loads)).loaders) (round_orders (rules_of b) loads) h.replies = rw is.entered at fit in
          record {
            replies = h.replies;
            answered = replies-before false (b.rounds + 1) (λ n. keys_for n loads) may b.loaders (round_orders (rules_of b) loads) h.replies report;
            after = received-is b s loads shown h.replies is.entered is.counted is.numbered memory;
          }

    -- a round that is out is lost
    pub out-stops : (begun s : StateOf S) (rounds : ℕ) → IsOut may p begun s rounds → StopsAnswering may begun s p
    out-stops begun s rounds is =
        let before = is.asked.before in
        let lost : RoundLost before s (front_in before p) = record { loaders = length before.loaders; after = is.asked.entered ∙ lost-all before (front_in before p) } in
        between-stops begun before s is.made is.between (inr lost)

-- each reply is of one of the loaders
pub received-below : (may : ℕ → List KeyOf → AnswerOf → Type 0) (most : ℕ) (rules : List RuleOf) (loads : List Load) (shown : List ReplyOf) → length rules ≤ most → AreReceived may (round_orders rules loads) shown → All (λ (r : ReplyOf). r.loader < most) shown
received-below may most rules loads shown le h =
    let all = orders-below 0 most rules (λ m. keys_for m loads) (omega (arith, le)) in
    let below = rw (orders-loads 0 rules loads) at all in
    All-permutation (λ (r : ReplyOf). r.loader < most) h.replies shown h.moved (replies-below may most (round_orders rules loads) h.replies h.fit below)
