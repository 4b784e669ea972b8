-- Stages of a run that follow one another, and what was done since it was begun.
use Rattle.std.proofs.Common.{◌≡◌, ◌≢◌, ◌+◌, ◌≤◌, false, List, [], ◌∷◌, ◌++◌, map, length, Option, Some, None, is_none, refl, ap, subst, ◌∙◌, sym, ◌⊎◌, ℕ, inl, inr, arith}
use Rattle.std.proofs.lemmas.List.{length-map}
use Rattle.std.proofs.lemmas.List.Sorted.{IsPermutation-refl}
use Rattle.std.specs.Prelude.{All}
use Rattle.load_memory.specs.Keys.{KeyOf}
use Rattle.load_memory.specs.Pairs.{MemoryOf, look}
use Rattle.load_memory.specs.Replies.{ReplyOf}
use Rattle.load_queue.specs.Answers.{AnswerOf}
use Rattle.load_queue.specs.Loaders.{stored_in}
use Rattle.load_queue.specs.Orders.{CutOf, asks, AreCutBy}
use Rattle.execution.specs.Loads.{Load, read}
use Rattle.execution.specs.Program.{Program}
use Rattle.execution.specs.Completion.{AnsweredOf}
use Rattle.execution.specs.Front.{keys_for}
use Rattle.execution.specs.Rounds.{modes_of, may_at, AreReplies, AreLimited, HasLoaders, without_failed}
use Rattle.execution.specs.Sessions.{Forgot, Lost}
use Rattle.execution.specs.Executes.{GrowsTo}
use Rattle.load_rounds.specs.Sessions.{SessionOf, StateOf, state_of, rules_of, memory_of, after_step, of_first, AreNumbered}
use Rattle.load_rounds.specs.Calls.{RoundLost, RoundRan}
use Rattle.load_rounds.specs.Headline.{MakesRounds, StopsAnswering}
use Rattle.load_rounds.specs.SharedRounds.{RequestOf, ReportOf, request_of, requests, together, joint, AreTexts, SharedHeadline, IsAnsweredAlone}
use Rattle.load_rounds.specs.Executions.{PartOf, plans_in, reports_in, first_report, given_to, CountRounds, FitsPart, FitParts, AreBegun}
use Rattle.load_rounds.specs.ByHand.{front_in, orders_in, received, AreReceived, ReceivesReplies, IsAsked, IsRound, IsUnasked, IsOut}
use Rattle.load_rounds.specs.Runs.{RunOf, program_of, IsReady, IsAway, IsFinished, IsRunAt, IsRun, GoesOnFrom, FitAt, Holds, Begins}
use Rattle.load_rounds.specs.declared.rounds.Stage.{Stage}
use Rattle.load_rounds.specs.declared.rounds.Stage.TheVariants.{Ready, Out, Finished, Failed}
use Rattle.load_rounds.proofs.Cutting.{length-logged}
use Rattle.load_rounds.proofs.Following.{InRounds, in-more, in-more-log, in-loaders}
use Rattle.load_rounds.proofs.GoingOn.{some_unreported, GoOn, or-left, gone-fit, gone-plans, gone-within}
use Rattle.load_rounds.proofs.Growing.{same-grows, received-grows, grows-trans}
use Rattle.load_rounds.proofs.Requests.{headline-one, stops-one}
use Rattle.load_rounds.proofs.Runs.{between-in, between-stops, round-counted, round-orders, asked-ran, out-stops}
use Rattle.load_rounds.proofs.Stepping.{made-recorded}
use Rattle.load_rounds.proofs.Sharing.{begun-counted, all-counted, all-round-counted, all-report, shared-all}

module _ {P E : Type 0} (program : P → Program) (text_of : P → AnsweredOf → List ℕ) (loaders : P → ℕ) (fits : P → E → MemoryOf → Type 0) where
  -- says what each tells once nothing is missing
  pub all-texts : (m : MemoryOf) (ys : List (PartOf P E)) → some_unreported ys ≡ false → FitParts program text_of loaders fits ys m → AreTexts (requests program text_of (plans_in ys)) (read m.modes (look m.pairs)) (reports_in ys)
  all-texts m [] all fit = tt
  all-texts m (y ∷ ys) all fit = go y.report (or-left (is_none y.report) (some_unreported ys) all).0 fit.0 (all-texts m ys (or-left (is_none y.report) (some_unreported ys) all).1 fit.1)
    where
      go : (t : Option ReportOf) → is_none t ≡ false → FitsPart program text_of loaders fits y.plan y.progress t m → AreTexts (requests program text_of (plans_in ys)) (read m.modes (look m.pairs)) (reports_in ys)
          → AreTexts (requests program text_of (plans_in (y ∷ ys))) (read m.modes (look m.pairs)) (given_to t ++ reports_in ys)
      go None known own later = absurd (cc known)
      go (Some t) known own later = (own.0.answered, later)

  module _ {S : Type 0} (may : S → List KeyOf → AnswerOf → Type 0) (begun : StateOf S) where
    -- a run that was just begun
    pub run-begun : (now : StateOf S) (plans : List P) (run : RunOf P E) → now ≡ after_step begun Forgot → AreBegun program text_of loaders fits plans run.parts → run.rounds ≡ 0 → IsReady program text_of may begun now run.parts run.rounds
    run-begun now plans run is h none = record {
      between = record { log = []; made = record { rounds = λ l k. ap (λ (s : StateOf S). s.memory l k) is; after = is }; counted = sym none };
      counts = begun-counted program (rules_of begun) (without_failed begun.memory) run.parts h.unreported;
    }

    -- want of memory between rounds
    pub ready-stops : (now new : StateOf S) (run : RunOf P E) → IsReady program text_of may begun now run.parts run.rounds → (new ≡ now) ⊎ RoundLost now new (front_in now (program_of program text_of run)) → StopsAnswering may begun new (program_of program text_of run)
    ready-stops now new run h end = between-stops may (program_of program text_of run) begun now new run.rounds h.between end

    -- the executions have gone on over what is known
    module _ (s : SessionOf S) (run later : RunOf P E) (h : IsReady program text_of may begun (state_of s) run.parts run.rounds) (gone : GoOn program text_of loaders fits run.rounds (memory_of s) run.parts later.parts) where
      are : plans_in later.parts ≡ plans_in run.parts
      are = gone-plans program text_of loaders fits run.rounds (memory_of s) run.parts later.parts gone

      counts : CountRounds program (rules_of begun) (without_failed begun.memory) h.between.log later.parts
      counts = all-counted program text_of loaders fits (rules_of begun) (without_failed begun.memory) h.between.log run.rounds (memory_of s) run.parts later.parts (sym h.between.counted) gone h.counts

      -- nothing is missing any more
      pub ready-finished : All (λ plan. loaders plan ≤ length s.loaders) (plans_in run.parts) → AreLimited (rules_of (state_of s)) → front_in (state_of s) (program_of program text_of run) ≡ [] → later.rounds ≡ run.rounds
          → IsFinished program text_of may begun (state_of s) later.parts later.rounds
      ready-finished enough limited none one =
          let in_rounds = between-in may (program_of program text_of run) begun (state_of s) run.rounds h.between in
          let size : length s.loaders ≡ length begun.loaders = in-loaders may begun (state_of s) (program_of program text_of run) run.rounds in_rounds in
          let each = subst (λ n. All (λ plan. loaders plan ≤ n) (plans_in run.parts)) size enough in
          let within = gone-within program text_of loaders fits 0 run.rounds (length begun.loaders) (memory_of s) run.parts later.parts gone each in
          let all = shared-all program text_of loaders fits may begun s later.parts h.between.log
          (subst (λ ps. MakesRounds may begun (state_of s) (joint program text_of ps) h.between.log) (sym are) h.between.made)
          counts in_rounds.rules (rw in_rounds.rules at limited)
          (subst (λ ps. HasLoaders (length begun.loaders) (joint program text_of ps)) (sym are) within)
          (all-report program text_of loaders fits run.rounds (memory_of s) run.parts later.parts gone none)
          (gone-fit program text_of loaders fits run.rounds (memory_of s) (memory_of s) run.parts later.parts gone (same-grows s s refl))
          (subst (λ ps. front_in (state_of s) (joint program text_of ps) ≡ []) (sym are) none) in
          record { headline = all.0; counted = all.1 ∙ h.between.counted ∙ sym one }

      -- one round more is out
      pub ready-out : (new : StateOf S) (orders : List CutOf) → later.rounds ≡ run.rounds + 1 → IsRound (program_of program text_of run) (state_of s) new orders → IsAway program text_of may begun new later.parts later.rounds
      ready-out new orders one round =
          let in_rounds = between-in may (program_of program text_of run) begun (state_of s) run.rounds h.between in
          let out : IsOut may (program_of program text_of run) begun new later.rounds = record {
            asked = record { before = state_of s; lacks = round.lacks; entered = round.entered; counted = round.counted; numbered = round.numbered };
            made = run.rounds;
            between = h.between;
            one_more = one;
          } in
          let moved = subst_away (sym are) out (λ replies. all-round-counted program text_of loaders fits (may_at may begun.loaders) (rules_of begun) (program_of program text_of run) (without_failed begun.memory) (look s.pairs) h.between.log replies run.rounds (memory_of s) run.parts later.parts h.between.made.rounds (ap modes_of in_rounds.rules) refl gone counts) in
          record { out = moved.0; counts = moved.1 }
        where
          subst_away : {qs : List P} → plans_in run.parts ≡ qs → (out : IsOut may (joint program text_of (plans_in run.parts)) begun new later.rounds)
              → ((round : List ReplyOf) → CountRounds program (rules_of begun) (without_failed begun.memory) (out.between.log ++ round ∷ []) later.parts)
              → (away : IsOut may (joint program text_of qs) begun new later.rounds) × ((round : List ReplyOf) → CountRounds program (rules_of begun) (without_failed begun.memory) (away.between.log ++ round ∷ []) later.parts)
          subst_away e out counted = subst (λ ps. (away : IsOut may (joint program text_of ps) begun new later.rounds) × ((round : List ReplyOf) → CountRounds program (rules_of begun) (without_failed begun.memory) (away.between.log ++ round ∷ []) later.parts)) e (out, counted)

    -- a round that is out is lost
    pub away-stops : (now : StateOf S) (run : RunOf P E) → IsAway program text_of may begun now run.parts run.rounds → StopsAnswering may begun now (program_of program text_of run)
    away-stops now run h = out-stops may (program_of program text_of run) begun now run.rounds h.out

    -- the replies to the round that is out are stored
    pub away-taken : (now : StateOf S) (run : RunOf P E) (shown : List ReplyOf) → AreLimited (rules_of now) → AreReceived (may_at may now.loaders) (orders_in now (program_of program text_of run)) shown → IsAway program text_of may begun now run.parts run.rounds
        → IsReady program text_of may begun (received now shown) run.parts run.rounds
    away-taken now run shown limited fit h =
        let p = program_of program text_of run in
        let out = h.out in
        let b : StateOf S = out.asked.before in
        let ran = asked-ran may p now out.asked shown limited fit in
        let inside = between-in may p begun b out.made out.between in
        let before : InRounds may begun b p out.made = record { log = out.between.log; made = out.between.made; counted = out.between.counted; rules = inside.rules; sources = inside.sources } in
        let after = in-more may begun b (received now shown) p out.made run.rounds before out.one_more out.asked.lacks ran in
        let log = in-more-log may begun b (received now shown) p out.made run.rounds before out.one_more out.asked.lacks ran in
        record {
          between = record { log = after.log; made = after.made; counted = after.counted };
          counts = subst (λ l. CountRounds program (rules_of begun) (without_failed begun.memory) l run.parts) (sym log) (h.counts ran.replies);
        }

-- a call that leaves the session as it was, or loses a round, keeps how many loaders it has
pub lost-size : {S : Type 0} (old new : StateOf S) (loads : List Load) → new ≡ after_step old (Lost loads) → length new.loaders ≡ length old.loaders
lost-size old new loads is = ap (λ (s : StateOf _). length s.loaders) is ∙ length-logged false (old.rounds + 1) 0 (λ n. keys_for n loads) old.loaders

pub unasked-size : {S : Type 0} (p : Program) (old new : StateOf S) → IsUnasked p old new → length new.loaders ≡ length old.loaders
unasked-size p old new (inl same) = ap (λ (s : StateOf _). length s.loaders) same
unasked-size p old new (inr lost) = lost-size old new (of_first lost.loaders (front_in old p)) lost.after

pub received-size : {S : Type 0} (old new : StateOf S) (shown : List ReplyOf) → new ≡ received old shown → length new.loaders ≡ length old.loaders
received-size old new shown is = ap (λ (s : StateOf _). length s.loaders) is ∙ length-map old.loaders (λ l. stored_in l old.rounds)

-- calls of a run, by what they say of it before and after
module _ {P E : Type 0} (program : P → Program) (text_of : P → AnsweredOf → List ℕ) (loaders : P → ℕ) (fits : P → E → MemoryOf → Type 0) {S : Type 0} where
  module _ (may : S → List KeyOf → AnswerOf → Type 0) where
    pub fails : (old new : StateOf S) (run later : RunOf P E) → run.stage ≡ Ready → later.stage ≡ Failed → plans_in later.parts ≡ plans_in run.parts → IsUnasked (program_of program text_of run) old new → GoesOnFrom program text_of may old new run later
    fails old new run later ready failed plans lost = λ begun is.
        let was : IsReady program text_of may begun old run.parts run.rounds = rw ready at is in
        rw (failed, plans) (ready-stops program text_of loaders fits may begun old new run was lost)

    -- the orders that were cut are those of a round
    pub round-is : (s : SessionOf S) (new : StateOf S) (run later : RunOf P E) (orders : List CutOf) → GoOn program text_of loaders fits run.rounds (memory_of s) run.parts later.parts → All (λ plan. loaders plan ≤ length s.loaders) (plans_in run.parts)
        → front_in (state_of s) (program_of program text_of run) ≢ [] → map asks orders ≡ orders_in (state_of s) (program_of program text_of run) → AreCutBy new.loaders orders → new ≡ after_step (state_of s) (Lost (front_in (state_of s) (program_of program text_of run))) → AreNumbered s.rounds s.loaders
        → IsRound (program_of program text_of run) (state_of s) new orders
    round-is s new run later orders gone enough lacks batches cut entered numbered =
        let within = gone-within program text_of loaders fits 0 run.rounds (length s.loaders) (memory_of s) run.parts later.parts gone enough in
        record { lacks = lacks; batches = batches; cut = cut; entered = entered; counted = round-counted (state_of s) new (program_of program text_of run) (length s.loaders) within (omega arith) lacks entered; numbered = numbered }

    pub finishes : (s : SessionOf S) (new : StateOf S) (run later : RunOf P E) → new ≡ state_of s → run.stage ≡ Ready → later.stage ≡ Finished → GoOn program text_of loaders fits run.rounds (memory_of s) run.parts later.parts
        → All (λ plan. loaders plan ≤ length s.loaders) (plans_in run.parts) → AreLimited (rules_of (state_of s)) → front_in (state_of s) (program_of program text_of run) ≡ [] → later.rounds ≡ run.rounds → GoesOnFrom program text_of may (state_of s) new run later
    finishes s new run later same ready finished gone enough limited none one = λ begun is.
        let was : IsReady program text_of may begun (state_of s) run.parts run.rounds = rw ready at is in
        rw (finished, same) (ready-finished program text_of loaders fits may begun s run later was gone enough limited none one)

    pub goes-out : (s : SessionOf S) (new : StateOf S) (run later : RunOf P E) (orders : List CutOf) → run.stage ≡ Ready → later.stage ≡ Out → GoOn program text_of loaders fits run.rounds (memory_of s) run.parts later.parts → later.rounds ≡ run.rounds + 1
        → IsRound (program_of program text_of run) (state_of s) new orders → GoesOnFrom program text_of may (state_of s) new run later
    goes-out s new run later orders ready out gone one round = λ begun is.
        let was : IsReady program text_of may begun (state_of s) run.parts run.rounds = rw ready at is in
        rw out (ready-out program text_of loaders fits may begun s run later was gone new orders one round)

    pub takes : (now new : StateOf S) (run self : RunOf P E) (shown : List ReplyOf) → run ≡ self → new ≡ received now shown → run.stage ≡ Out → AreLimited (rules_of now) → AreReceived (may_at may now.loaders) (orders_in now (program_of program text_of run)) shown
        → GoesOnFrom program text_of may now new self (record run { stage = Ready })
    takes now new run self shown view is out limited fit = subst (λ r. GoesOnFrom program text_of may now new r (record run { stage = Ready })) view (λ begun h.
        let was : IsAway program text_of may begun now run.parts run.rounds = rw out at h in
        rw is (away-taken program text_of loaders fits may begun now run shown limited fit was))

    -- a round that was run in one piece
    pub turned : (old mid new : StateOf S) (run middle : RunOf P E) (orders : List CutOf) → IsRound (program_of program text_of run) old mid orders → middle.stage ≡ Out → plans_in middle.parts ≡ plans_in run.parts → AreLimited (rules_of mid) → ReceivesReplies (may_at may mid.loaders) (map asks orders) mid new
        → RoundRan may old new (front_in old (program_of program text_of run)) × GoesOnFrom program text_of may mid new middle (record middle { stage = Ready })
    turned old mid new run middle orders round out plans limited h =
        let p = program_of program text_of run in
        let asked : IsAsked p mid = record { before = old; lacks = round.lacks; entered = round.entered; counted = round.counted; numbered = round.numbered } in
        let fit : AreReplies (may_at may mid.loaders) (orders_in mid p) h.replies = rw (← round-orders p old mid orders round) at h.answered in
        let got : AreReceived (may_at may mid.loaders) (orders_in mid p) h.replies = record { replies = h.replies; fit = fit; moved = IsPermutation-refl h.replies } in
        let again = subst (λ ps. AreReceived (may_at may mid.loaders) (orders_in mid (joint program text_of ps)) h.replies) (sym plans) got in (
          rw h.stored (asked-ran may p mid asked h.replies limited got),
          takes mid new middle middle h.replies refl h.stored out limited again,
        )

    pub loses : (now new : StateOf S) (run self : RunOf P E) → run ≡ self → new ≡ now → run.stage ≡ Out → GoesOnFrom program text_of may now new self (record run { stage = Failed })
    loses now new run self view same out = subst (λ r. GoesOnFrom program text_of may now new r (record run { stage = Failed })) view (λ begun is.
        let was : IsAway program text_of may begun now run.parts run.rounds = rw out at is in
        rw same (away-stops program text_of loaders fits may begun now run was))

  enough-later : (old new : SessionOf S) (run later : RunOf P E) → plans_in later.parts ≡ plans_in run.parts → length new.loaders ≡ length old.loaders → All (λ plan. loaders plan ≤ length old.loaders) (plans_in run.parts) → All (λ plan. loaders plan ≤ length new.loaders) (plans_in later.parts)
  enough-later old new run later plans size enough = subst (λ ps. All (λ plan. loaders plan ≤ length new.loaders) ps) (sym plans) (subst (λ n. All (λ plan. loaders plan ≤ n) (plans_in run.parts)) (sym size) enough)

  pub fails-holds : (old new : SessionOf S) (run later : RunOf P E) → later.stage ≡ Failed → plans_in later.parts ≡ plans_in run.parts → length new.loaders ≡ length old.loaders → All (λ plan. loaders plan ≤ length old.loaders) (plans_in run.parts) → Holds program text_of loaders fits later new
  fails-holds old new run later failed plans size enough = record { enough = enough-later old new run later plans size enough; fitting = rw failed tt }

  pub finished-holds : (old new : SessionOf S) (run later : RunOf P E) → later.stage ≡ Finished → plans_in later.parts ≡ plans_in run.parts → length new.loaders ≡ length old.loaders → All (λ plan. loaders plan ≤ length old.loaders) (plans_in run.parts) → Holds program text_of loaders fits later new
  finished-holds old new run later finished plans size enough = record { enough = enough-later old new run later plans size enough; fitting = rw finished tt }

  pub out-holds : (old new : SessionOf S) (run later : RunOf P E) → later.stage ≡ Out → plans_in later.parts ≡ plans_in run.parts → length new.loaders ≡ length old.loaders → All (λ plan. loaders plan ≤ length old.loaders) (plans_in run.parts)
      → GoOn program text_of loaders fits run.rounds (memory_of old) run.parts later.parts → GrowsTo (memory_of old) (memory_of new) → Holds program text_of loaders fits later new
  out-holds old new run later out plans size enough gone grown = record {
    enough = enough-later old new run later plans size enough;
    fitting = rw out (λ (last : MemoryOf) (more : GrowsTo (memory_of new) last). gone-fit program text_of loaders fits run.rounds (memory_of old) last run.parts later.parts gone (grows-trans (memory_of old) (memory_of new) last grown more));
  }

  pub takes-holds : (old new : SessionOf S) (run : RunOf P E) (shown : List ReplyOf) → run.stage ≡ Out → state_of new ≡ received (state_of old) shown → Holds program text_of loaders fits run old → Holds program text_of loaders fits (record run { stage = Ready }) new
  takes-holds old new run shown out is holds =
      let away : FitAt program text_of loaders fits Out run.parts (memory_of old) = rw out at holds.fitting in
      record { enough = enough-later old new run run refl (received-size (state_of old) (state_of new) shown is) holds.enough; fitting = away (memory_of new) (received-grows old new shown is) }

  pub begins : (may : S → List KeyOf → AnswerOf → Type 0) (old new : SessionOf S) (plans : List P) (run : RunOf P E) → state_of new ≡ after_step (state_of old) Forgot → AreBegun program text_of loaders fits plans run.parts → run.rounds ≡ 0 → run.stage ≡ Ready
      → All (λ plan. loaders plan ≤ length old.loaders) plans → Begins program text_of loaders fits may old new plans run
  begins may old new plans run after begun none ready enough =
      let size : length old.loaders ≡ length new.loaders = sym (ap (λ (s : StateOf S). length s.loaders) after) in
      let own = subst (λ ps. All (λ plan. loaders plan ≤ length old.loaders) ps) (sym begun.same) enough in
      record {
        same = begun.same;
        rounds = none;
        ready = ready;
        is = rw ready (run-begun program text_of loaders fits may (state_of old) (state_of new) plans run after begun none);
        holds = record { enough = subst (λ n. All (λ plan. loaders plan ≤ n) (plans_in run.parts)) size own; fitting = rw ready (begun.fitting (memory_of new)) };
      }

module _ {S : Type 0} (may : S → List KeyOf → AnswerOf → Type 0) where
  -- nothing was done but that failed batches were forgotten
  pub forgot-stops : (p : Program) (old new : StateOf S) → new ≡ after_step old Forgot → StopsAnswering may old new p
  forgot-stops p old new is =
      let made : MakesRounds may old new p [] = record { rounds = λ l k. ap (λ (s : StateOf S). s.memory l k) is; after = is } in
      record { log = []; mid = new; made = made; end = inl refl; recorded = made-recorded may old new p [] made }

  -- the answers are lost
  pub headline-stops : (old new : StateOf S) (rs : List RequestOf) (reports : List ReportOf) → SharedHeadline may old new rs reports → StopsAnswering may old new (together rs)
  headline-stops old new rs reports h = record { log = h.log; mid = new; made = h.made; end = inl refl; recorded = h.recorded }

-- whatever its stage, a run that is dropped has made rounds, and perhaps one more is lost
module _ {P E : Type 0} (program : P → Program) (text_of : P → AnsweredOf → List ℕ) (loaders : P → ℕ) (fits : P → E → MemoryOf → Type 0) {S : Type 0} (may : S → List KeyOf → AnswerOf → Type 0) (begun now : StateOf S) where
  pub run-stops : (run : RunOf P E) → IsRun program text_of may begun now run → StopsAnswering may begun now (program_of program text_of run)
  run-stops run is = at run.stage is
    where
      at : (stage : Stage) → IsRunAt program text_of may begun now run.parts run.rounds stage → StopsAnswering may begun now (program_of program text_of run)
      at Ready is = ready-stops program text_of loaders fits may begun now now run is (inl refl)
      at Out is = away-stops program text_of loaders fits may begun now run is
      at Finished is = headline-stops may begun now (requests program text_of (plans_in run.parts)) (reports_in run.parts) is.headline
      at Failed is = is

-- the answer to one plan, and what stays of it after want of memory
module _ {P E : Type 0} (program : P → Program) (text_of : P → AnsweredOf → List ℕ) (loaders : P → ℕ) (fits : P → E → MemoryOf → Type 0) {S : Type 0} (may : S → List KeyOf → AnswerOf → Type 0) (old now : StateOf S) (plan : P) (run : RunOf P E) (plans : plans_in run.parts ≡ plan ∷ []) where
  pub answered-one : run.stage ≡ Finished → IsRun program text_of may old now run → (report : ReportOf) × (first_report run.parts ≡ Some report) × IsAnsweredAlone may old now (request_of (program plan) (text_of plan)) report × (report.rounds ≡ run.rounds)
  answered-one finished is =
      let done : IsFinished program text_of may old now run.parts run.rounds = rw finished at is in
      go run.parts plans done
    where
      one : (t : Option ReportOf) → (h : SharedHeadline may old now (request_of (program plan) (text_of plan) ∷ []) (given_to t ++ [])) → length h.log ≡ run.rounds
          → (report : ReportOf) × (t ≡ Some report) × IsAnsweredAlone may old now (request_of (program plan) (text_of plan)) report × (report.rounds ≡ run.rounds)
      one None h counted = absurd h.answers
      one (Some report) h counted = let longest = h.longest in (report, refl, (headline-one may old now (request_of (program plan) (text_of plan)) report h, h.answers.0.loads), omega (arith, longest, counted))

      go : (xs : List (PartOf P E)) → plans_in xs ≡ plan ∷ [] → IsFinished program text_of may old now xs run.rounds → (report : ReportOf) × (first_report xs ≡ Some report) × IsAnsweredAlone may old now (request_of (program plan) (text_of plan)) report × (report.rounds ≡ run.rounds)
      go (x ∷ []) e h =
          let moved = subst (λ ps. (h : SharedHeadline may old now (requests program text_of ps) (given_to x.report ++ [])) × (length h.log ≡ run.rounds)) e (h.headline, h.counted) in
          one x.report moved.0 moved.1
      go xs e h = absurd (cc e)

  pub stopped-one : IsRun program text_of may old now run → StopsAnswering may old now (program plan)
  stopped-one is =
      let stops = run-stops program text_of loaders fits may old now run is in
      stops-one may old now (request_of (program plan) (text_of plan)) (subst (λ ps. StopsAnswering may old now (joint program text_of ps)) plans stops)

-- the answers to several, and what stays of them after want of memory
module _ {P E : Type 0} (program : P → Program) (text_of : P → AnsweredOf → List ℕ) (loaders : P → ℕ) (fits : P → E → MemoryOf → Type 0) {S : Type 0} (may : S → List KeyOf → AnswerOf → Type 0) (old now : StateOf S) (plans : List P) (run : RunOf P E) (same : plans_in run.parts ≡ plans) where
  pub finished-all : run.stage ≡ Finished → IsRun program text_of may old now run → SharedHeadline may old now (requests program text_of plans) (reports_in run.parts)
  finished-all finished is =
      let done : IsFinished program text_of may old now run.parts run.rounds = rw finished at is in
      subst (λ ps. SharedHeadline may old now (requests program text_of ps) (reports_in run.parts)) same done.headline

  pub stopped-all : IsRun program text_of may old now run → StopsAnswering may old now (joint program text_of plans)
  stopped-all is = subst (λ ps. StopsAnswering may old now (joint program text_of ps)) same (run-stops program text_of loaders fits may old now run is)
