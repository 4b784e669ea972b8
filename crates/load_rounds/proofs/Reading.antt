-- Keys of a loader as a program: what a run of it does is what a call that loads them does.
use Rattle.std.proofs.Common.{◌≡◌, ◌≢◌, ◌<◌, ◌≤◌, ◌+◌, ◌^◌, ℕ, suc, Bool, true, false, List, [], ◌∷◌, ◌++◌, map, length, Option, Some, None, is_none, IsSome, refl, ap, subst, ◌∙◌, sym, inl, inr, ◌⊎◌, arith, String, string_bytes}
use Rattle.std.proofs.lemmas.Bool.{le-ltb}
use Rattle.std.proofs.lemmas.List.{append-nil, length-map}
use Rattle.std.proofs.lemmas.List.Elements.{All-nil, All-cons}
use Rattle.std.specs.Prelude.{All, if◌then◌else◌}
use Rattle.load_memory.specs.Keys.{KeyOf}
use Rattle.load_memory.specs.Outcomes.{OutcomeOf}
use Rattle.load_memory.specs.Pairs.{MemoryOf, look}
use Rattle.load_memory.specs.Replies.{ReplyOf}
use Rattle.load_memory.specs.declared.key.KeyMode.{KeyMode}
use Rattle.load_queue.specs.Answers.{AnswerOf}
use Rattle.load_queue.specs.Loaders.{LoaderOf}
use Rattle.load_queue.specs.Wanted.{WantedOf}
use Rattle.execution.specs.Loads.{Load, Memory, Reader, read, IsOneOf}
use Rattle.execution.specs.Program.{Null, Program, Open, At, given, tree, trees, all_needs, all_chain, chain}
use Rattle.execution.specs.Work.{count_positions, count_all_positions, work}
use Rattle.execution.specs.Completion.{is_open}
use Rattle.execution.specs.Executes.{IsExecuted}
use Rattle.execution.specs.Reads.{count_read}
use Rattle.execution.specs.Front.{missing, firsts, front, front_of_keys, wanting, modes_wanted}
use Rattle.execution.specs.Rounds.{RuleOf, rule_of, modes_of, round_orders, orders_from, may_at, AreReplies, AreRounds, AreLimited, HasLoaders, after_round, without_failed}
use Rattle.execution.specs.Sessions.{Forgot, AskedLoads, Lost}
use Rattle.execution.proofs.Executing.{reads, Adds, ready, waits}
use Rattle.execution.proofs.Monotone.{front-open}
use Rattle.execution.proofs.RoundLaws.{rounds-below, rounds-chain}
use Rattle.load_rounds.specs.Sessions.{StateOf, rules_of, session_modes, logged_from, of_first, after_step}
use Rattle.load_rounds.specs.Calls.{load_of, front_at, asked_for, RoundRan, RoundLost, AsksOnce, IsStopped}
use Rattle.load_rounds.specs.Headline.{asked_steps, MakesRounds, StopsAnswering}
use Rattle.load_rounds.specs.Reading.{reads_from, reading, no_text, CanLoad, HasRead}
use Rattle.load_rounds.proofs.Lacking.{LacksSoFar, lacks}
use Rattle.load_rounds.proofs.Stepping.{steps-rules}
use Rattle.futures.specs.declared.task.Poll.TheVariants.{Ready, Pending}
use Rattle.std.specs.declared.alloc.Global.{Global}

-- ---- what the program needs

nothing-more : (o : Option OutcomeOf) → given {A = List Load} o [] (λ x. []) ≡ []
nothing-more None = refl
nothing-more (Some x) = refl

reads-all : (n loader : ℕ) (ks : List KeyOf) (R : Reader) → all_needs (reads_from n loader ks) R ≡ map (load_of loader) ks
reads-all n loader [] R = refl
reads-all n loader (k ∷ ks) R =
    ap (λ ls. (load_of loader k ∷ ls) ++ all_needs (reads_from (suc n) loader ks) R) (nothing-more (R (load_of loader k))) ∙ ap (λ ls. load_of loader k ∷ ls) (reads-all (suc n) loader ks R)

-- its front is what is asked for the keys
pub reading-front : (modes : List KeyMode) (loader : ℕ) (ks : List KeyOf) (M : Memory) → front modes (reading loader ks) M ≡ front_of_keys modes loader ks M
reading-front modes loader ks M = ap (λ ls. firsts modes (missing (read modes M) ls)) (reads-all 0 loader ks (read modes M))

one-of : (loader n : ℕ) (ks : List KeyOf) (l : Load) → loader < n → IsOneOf l (map (load_of loader) ks) → l.loader < n
one-of loader n [] l lt h = absurd h
one-of loader n (k ∷ ks) l lt (inl e) = rw e lt
one-of loader n (k ∷ ks) l lt (inr h) = one-of loader n ks l lt h

pub reading-within : (n loader : ℕ) (ks : List KeyOf) → loader < n → HasLoaders n (reading loader ks)
reading-within n loader ks lt = λ R l one. one-of loader n ks l lt (rw (reads-all 0 loader ks R) at one)

no-chain : (o : Option OutcomeOf) → ◌≡◌ {A = ℕ} (given o 0 (λ x. 0)) 0
no-chain None = refl
no-chain (Some x) = refl

reads-chain : (n loader : ℕ) (ks : List KeyOf) (R : Reader) → all_chain (reads_from n loader ks) R ≤ 1
reads-chain n loader [] R = omega arith
reads-chain n loader (k ∷ ks) R = omega (arith, no-chain (R (load_of loader k)), reads-chain (suc n) loader ks R)

pub reading-chain : (loader : ℕ) (ks : List KeyOf) (R : Reader) → chain (reading loader ks) R ≤ 1
reading-chain loader ks R = reads-chain 0 loader ks R

-- ---- its work

reads-work : (n loader : ℕ) (ks : List KeyOf) (R : Reader) → count_all_positions (trees (reads_from n loader ks) R) ≡ length ks
reads-work n loader [] R = refl
reads-work n loader (k ∷ ks) R = omega (arith, one-position (R (load_of loader k)), reads-work (suc n) loader ks R)
  where
    one-position : (o : Option OutcomeOf) → count_positions (given o Open (λ x. At Null)) ≡ 1
    one-position None = refl
    one-position (Some x) = refl

pub reading-work : (loader : ℕ) (ks : List KeyOf) (R : Reader) → work (reading loader ks) R ≡ length ks + 1
reading-work loader ks R = omega (arith, reads-work 0 loader ks R)

-- ---- what an execution of it answers that has wanted what is missing

module _ (loader : ℕ) (ks : List KeyOf) (m : MemoryOf) (old new : List WantedOf) (some : Bool) (so : LacksSoFar (reads m) loader old ks new some) where
  open-lacks : is_open (tree (reading loader ks) (reads m)) ≡ lacks (missing (reads m) (map (load_of loader) ks))
  open-lacks = go (missing (reads m) (map (load_of loader) ks)) refl
    where
      open-some : (l : Load) (ls : List Load) (b : Bool) → is_open (tree (reading loader ks) (reads m)) ≡ b → front_of_keys m.modes loader ks (look m.pairs) ≡ firsts m.modes (l ∷ ls) → b ≡ true
      open-some l ls true e f = refl
      open-some l ls false e f = absurd (cc (sym (reading-front m.modes loader ks (look m.pairs) ∙ f) ∙ (front-open m.modes (reading loader ks) (look m.pairs)).1 e))

      go : (ls : List Load) → missing (reads m) (map (load_of loader) ks) ≡ ls → is_open (tree (reading loader ks) (reads m)) ≡ lacks ls
      go [] e = (front-open m.modes (reading loader ks) (look m.pairs)).0 (reading-front m.modes loader ks (look m.pairs) ∙ ap (firsts m.modes) e)
      go (l ∷ ls) e = open-some l ls (is_open (tree (reading loader ks) (reads m))) refl (ap (firsts m.modes) e)

  reading-adds : Adds (reading loader ks) m old new
  reading-adds = so.0 ∙ ap (λ ls. wanting old (missing (reads m) ls)) (sym (reads-all 0 loader ks (reads m)))

  pub reading-ready : (text : String Global) (loads : ℕ) → some ≡ false → string_bytes text ≡ [] → loads ≡ length ks → loads < 2 ^ 64 → IsExecuted no_text old new (reading loader ks) m (Ready (record { text = text; loads = loads }))
  reading-ready text loads none is all bounded =
      let read : loads ≡ count_read (reading loader ks) (reads m) = all ∙ sym (length-map ks (load_of loader)) ∙ ap length (sym (reads-all 0 loader ks (reads m))) in
      ready no_text (reading loader ks) m old new reading-adds (record { text = text; loads = loads }) (open-lacks ∙ sym so.1 ∙ none) is (omega (arith, read, bounded))

  pub reading-waits : some ≡ true → modes_wanted old ≡ m.modes → IsExecuted no_text old new (reading loader ks) m Pending
  reading-waits one lined_up = waits no_text (reading loader ks) m old new reading-adds (open-lacks ∙ sym so.1 ∙ one) lined_up

-- ---- keys that are known

none-some : (o : Option OutcomeOf) → is_none o ≡ false → IsSome o
none-some None e = absurd (cc e)
none-some (Some x) e = refl

-- all keys are known where nothing is missing
pub known-already : (modes : List KeyMode) (loader : ℕ) (ks : List KeyOf) (M : Memory) → front_of_keys modes loader ks M ≡ [] → All (λ k. IsSome (read modes M (load_of loader k))) ks
known-already modes loader ks M none = go ks (none-missing (missing (read modes M) (map (load_of loader) ks)) none) where
  none-missing : (ls : List Load) → firsts modes ls ≡ [] → ls ≡ []
  none-missing [] e = refl
  none-missing (l ∷ ls) e = absurd (cc e)

  go : (ks : List KeyOf) → missing (read modes M) (map (load_of loader) ks) ≡ [] → All (λ k. IsSome (read modes M (load_of loader k))) ks
  go [] e = All-nil (λ k. IsSome (read modes M (load_of loader k)))
  go (k ∷ ks) e = one (is_none (read modes M (load_of loader k))) refl (go ks) e
    where
      one : (b : Bool) → is_none (read modes M (load_of loader k)) ≡ b → (missing (read modes M) (map (load_of loader) ks) ≡ [] → All (λ k. IsSome (read modes M (load_of loader k))) ks)
          → (if b then load_of loader k ∷ missing (read modes M) (map (load_of loader) ks) else missing (read modes M) (map (load_of loader) ks)) ≡ [] → All (λ k. IsSome (read modes M (load_of loader k))) (k ∷ ks)
      one true f rest e = absurd (cc e)
      one false f rest e = All-cons (λ k. IsSome (read modes M (load_of loader k))) k ks (none-some (read modes M (load_of loader k)) f) (rest e)

-- ---- a round that asks nothing

no-orders : (n : ℕ) (rules : List RuleOf) → orders_from n rules [] ≡ []
no-orders n [] = refl
no-orders n (r ∷ rs) = no-orders (suc n) rs

none-first : (loads : List Load) → of_first 0 loads ≡ []
none-first [] = refl
none-first (l ∷ ls) = rw (le-ltb l.loader 0 (omega arith)) (none-first ls)

module _ {S : Type 0} where
  none-logged : (round n : ℕ) (ls : List (LoaderOf S)) → logged_from n false round (λ m. []) ls ≡ ls
  none-logged round n [] = refl
  none-logged round n (l ∷ ls) =
      let more : l.orders + 0 ≡ l.orders = omega arith in
      λ i. record l { log = append-nil l.log i; orders = more i } ∷ none-logged round (suc n) ls i

  none-lost : (s : StateOf S) → after_step s (Lost []) ≡ s
  none-lost s =
      let made : after_step s (Lost []) ≡ record s { loaders = logged_from 0 false (s.rounds + 1) (λ n. []) s.loaders } = rw (no-orders 0 (rules_of s)) (let more : s.rounds + 0 ≡ s.rounds = omega arith in λ i. record s { loaders = logged_from 0 false (s.rounds + 1) (λ n. []) s.loaders; rounds = more i }) in
      made ∙ ap (λ ls. record s { loaders = ls }) (none-logged (s.rounds + 1) 0 s.loaders)

  lost-nothing : (s : StateOf S) (loads : List Load) → RoundLost s s loads
  lost-nothing s loads = record { loaders = 0; after = sym (ap (λ ls. after_step s (Lost ls)) (none-first loads) ∙ none-lost s) }

  nothing-lost : (s new : StateOf S) (loads : List Load) → loads ≡ [] → RoundLost s new loads → new ≡ s
  nothing-lost s new loads none h = h.after ∙ ap (λ ls. after_step s (Lost (of_first h.loaders ls))) none ∙ none-lost s

-- ---- a round that asks what is missing

-- after it nothing is
pub read-fills : (may : ℕ → List KeyOf → AnswerOf → Type 0) (rules : List RuleOf) (loader : ℕ) (ks : List KeyOf) (M : Memory) (replies : List ReplyOf) → AreLimited rules → loader < length rules → front_of_keys (modes_of rules) loader ks M ≢ []
    → AreReplies may (round_orders rules (front_of_keys (modes_of rules) loader ks M)) replies → front_of_keys (modes_of rules) loader ks (after_round rules M replies) ≡ []
read-fills may rules loader ks M replies limited lt lacks told = go (front (modes_of rules) p N) refl
  where
    p : Program
    p = reading loader ks

    N : Memory
    N = after_round rules M replies

    rounds : AreRounds may rules p M (replies ∷ []) N
    rounds = (
      λ none. lacks (sym (reading-front (modes_of rules) loader ks M) ∙ none),
      subst (λ ls. AreReplies may (round_orders rules ls) replies) (sym (reading-front (modes_of rules) loader ks M)) told,
      λ l k. refl,
    )

    go : (ls : List Load) → front (modes_of rules) p N ≡ ls → front_of_keys (modes_of rules) loader ks N ≡ []
    go [] none = sym (reading-front (modes_of rules) loader ks N) ∙ none
    go (l ∷ ls) some = absurd (omega (arith, reading-chain loader ks (read (modes_of rules) N), rounds-below may rules p M (replies ∷ []) N limited (reading-within (length rules) loader ks lt) rounds (λ none. cc (sym some ∙ none))))

-- ---- a run of the program

module _ {S : Type 0} (may : S → List KeyOf → AnswerOf → Type 0) where
  asks-none : (old new : StateOf S) (loads : List Load) → loads ≡ [] → new ≡ old → AsksOnce may old new loads
  asks-none old new loads none e = rw none e

  asks-some : (old new : StateOf S) (loads : List Load) → loads ≢ [] → RoundRan may old new loads → AsksOnce may old new loads
  asks-some old new [] ne h = absurd (ne refl)
  asks-some old new (l ∷ ls) ne h = h

  module _ (old : StateOf S) (loader : ℕ) (ks : List KeyOf) where
    start-front : front (session_modes old) (reading loader ks) (without_failed old.memory) ≡ asked_for old loader ks
    start-front = reading-front (session_modes old) loader ks (without_failed old.memory)

    -- one round was made
    one-round : (new : StateOf S) (r : List ReplyOf) → MakesRounds may old new (reading loader ks) (r ∷ []) → AsksOnce may (after_step old Forgot) new (asked_for old loader ks)
    one-round new r h =
        asks-some (after_step old Forgot) new (asked_for old loader ks) (λ none. h.rounds.0 (start-front ∙ none))
        (record {
          replies = r;
          answered = subst (λ ls. AreReplies (may_at may old.loaders) (round_orders (rules_of old) ls) r) start-front h.rounds.1;
          after = h.after ∙ ap (λ ls. after_step (after_step old Forgot) (AskedLoads ls r)) start-front;
        })

    -- until nothing is missing there is one at most
    asked-once : (new : StateOf S) (log : List (List ReplyOf)) → MakesRounds may old new (reading loader ks) log → length log ≤ 1 → front (session_modes old) (reading loader ks) new.memory ≡ [] → AsksOnce may (after_step old Forgot) new (asked_for old loader ks)
    asked-once new [] h le done =
        asks-none (after_step old Forgot) new (asked_for old loader ks)
        (sym start-front ∙ ap (λ (s : StateOf S). front (session_modes old) (reading loader ks) s.memory) (sym h.after) ∙ done) h.after
    asked-once new (r ∷ []) h le done = one-round new r h
    asked-once new (r ∷ s ∷ log) h le done = absurd (omega (arith, le))

    -- a run that has answered
    pub read-once : (new : StateOf S) → HasRead may old new loader ks → AsksOnce may (after_step old Forgot) new (asked_for old loader ks)
    read-once new h =
        let is = h.headline in
        asked-once new is.log is.made (omega (arith, is.counted, is.chained, reading-chain loader ks (read (session_modes old) new.memory))) is.complete

    -- then nothing is missing
    pub read-complete : (new : StateOf S) → HasRead may old new loader ks → front_at new loader ks ≡ []
    read-complete new h =
        let is = h.headline in
        let rules : rules_of new ≡ rules_of old = ap rules_of is.made.after ∙ steps-rules old (Forgot ∷ asked_steps (rules_of old) (reading loader ks) (without_failed old.memory) is.log) in
        ap (λ rs. front_of_keys (modes_of rs) loader ks new.memory) rules ∙ sym (reading-front (session_modes old) loader ks new.memory) ∙ is.complete

    module _ (can : CanLoad old loader) where
      limited : AreLimited (rules_of old)
      limited = can.limited

      within-rules : HasLoaders (length (rules_of old)) (reading loader ks)
      within-rules = let lt = can.within in reading-within (length (rules_of old)) loader ks (omega (arith, lt, length-map old.loaders rule_of))

      stopped-after : (mid new : StateOf S) (log : List (List ReplyOf)) → MakesRounds may old mid (reading loader ks) log → (new ≡ mid) ⊎ RoundLost mid new (front (session_modes old) (reading loader ks) mid.memory) → IsStopped may old new (asked_for old loader ks)
      stopped-after mid new [] h (inl e) = inr (subst (λ (s : StateOf S). RoundLost (after_step old Forgot) s (asked_for old loader ks)) (sym (e ∙ h.after)) (lost-nothing (after_step old Forgot) (asked_for old loader ks)))
      stopped-after mid new [] h (inr lost) =
          let same : front (session_modes old) (reading loader ks) mid.memory ≡ asked_for old loader ks = ap (λ (s : StateOf S). front (session_modes old) (reading loader ks) s.memory) h.after ∙ start-front in
          inr (subst (λ (s : StateOf S). RoundLost s new (asked_for old loader ks)) h.after (subst (RoundLost mid new) same lost))
      stopped-after mid new (r ∷ []) h (inl e) = inl (subst (λ (s : StateOf S). AsksOnce may (after_step old Forgot) s (asked_for old loader ks)) (sym e) (one-round mid r h))
      stopped-after mid new (r ∷ []) h (inr lost) = go (front (session_modes old) (reading loader ks) mid.memory) refl
        where
          go : (ls : List Load) → front (session_modes old) (reading loader ks) mid.memory ≡ ls → IsStopped may old new (asked_for old loader ks)
          go [] none = inl (subst (λ (s : StateOf S). AsksOnce may (after_step old Forgot) s (asked_for old loader ks)) (sym (nothing-lost mid new (front (session_modes old) (reading loader ks) mid.memory) none lost)) (one-round mid r h))
          go (l ∷ ls) some =
              absurd (omega (arith, reading-chain loader ks (read (session_modes old) mid.memory), rounds-below (may_at may old.loaders) (rules_of old) (reading loader ks) (without_failed old.memory) (r ∷ []) mid.memory limited within-rules h.rounds (λ none. cc (sym some ∙ none))))
      stopped-after mid new (r ∷ s ∷ log) h end =
          absurd (omega (arith, reading-chain loader ks (read (session_modes old) mid.memory), rounds-chain (may_at may old.loaders) (rules_of old) (reading loader ks) (without_failed old.memory) (r ∷ s ∷ log) mid.memory limited within-rules h.rounds))

      -- and so it is where memory runs out
      pub reading-stops : (new : StateOf S) → StopsAnswering may old new (reading loader ks) → IsStopped may old new (asked_for old loader ks)
      reading-stops new h = stopped-after h.mid new h.log h.made h.end
