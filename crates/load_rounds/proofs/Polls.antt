-- Polls of an answering future that follow one another.
use Rattle.std.proofs.Common.{◌≡◌, ◌≤◌, ◌+◌, ℕ, true, List, [], ◌∷◌, length, refl, ap, subst, ◌∙◌, arith, inl}
use Rattle.std.proofs.lemmas.List.{length-map}
use Rattle.load_memory.specs.Keys.{KeyOf}
use Rattle.load_memory.specs.Pairs.{MemoryOf}
use Rattle.load_queue.specs.Answers.{AnswerOf}
use Rattle.execution.specs.Loads.{read}
use Rattle.execution.specs.Program.{Program, chain}
use Rattle.execution.specs.Completion.{AnsweredOf}
use Rattle.execution.specs.Rounds.{rule_of, modes_of, may_at, AreLimited, HasLoaders, without_failed}
use Rattle.execution.proofs.RoundLaws.{rounds-chain}
use Rattle.futures.specs.Poll.{OnPending}
use Rattle.futures.specs.Task.{Covers, Holds}
use Rattle.futures.specs.declared.task.Poll.{Poll}
use Rattle.futures.specs.declared.task.Poll.TheVariants.{Ready, Pending}
use Rattle.futures.specs.declared.task.context.Context.{Context}
use Rattle.load_rounds.specs.Sessions.{SessionOf, StateOf, state_of, rules_of, session_modes}
use Rattle.load_rounds.specs.Calls.{RoundRan}
use Rattle.load_rounds.specs.SharedRounds.{request_of, joint}
use Rattle.load_rounds.specs.Executions.{plans_in}
use Rattle.load_rounds.specs.ByHand.{front_in, IsBetween}
use Rattle.load_rounds.specs.Runs.{RunOf, MayRun, program_of, IsReady, IsRun, IsTurn}
use Rattle.load_rounds.specs.Answerings.{FarOf, polled, StartsPoll, PollRan}
use Rattle.load_rounds.proofs.Following.{in-loaders}
use Rattle.load_rounds.proofs.Requests.{front-one}
use Rattle.load_rounds.proofs.Runs.{between-in}

-- a pending poll that has asked for the next one owes no more, where its future waits for no source
pub woken-covers : {T : Type 0} (polled : Poll T) (cx : Context) → OnPending polled (cx.is_woken ≡ true) → OnPending polled (Covers cx (λ _. ⊥))
unfolding Holds
woken-covers (Ready x) cx woken = tt
woken-covers Pending cx woken = (inl woken, λ s need. absurd need)

module _ {P E : Type 0} (program : P → Program) (text_of : P → AnsweredOf → List ℕ) (loaders : P → ℕ) (fits : P → E → MemoryOf → Type 0) {S : Type 0} (may : S → List KeyOf → AnswerOf → Type 0) (plan : P) where
  -- the rounds of a run of one plan are within its load chain
  rounds-within : (old before now : StateOf S) (run later : RunOf P E) → plans_in run.parts ≡ plan ∷ [] → plans_in later.parts ≡ plan ∷ [] → IsReady program text_of may old before run.parts run.rounds → IsReady program text_of may old now later.parts later.rounds
      → MayRun (program_of program text_of run) before → later.rounds ≤ chain (program plan) (read (session_modes now) now.memory)
  rounds-within old before now run later plans same was is able =
      let p : Program = joint program text_of (plan ∷ []) in
      let first : IsBetween may p old before run.rounds = subst (λ ps. IsBetween may (joint program text_of ps) old before run.rounds) plans was.between in
      let last : IsBetween may p old now later.rounds = subst (λ ps. IsBetween may (joint program text_of ps) old now later.rounds) same is.between in
      let asks : HasLoaders (length before.loaders) p = subst (λ ps. HasLoaders (length before.loaders) (joint program text_of ps)) plans able.within in
      let inside = between-in may p old before run.rounds first in
      let inside_last = between-in may p old now later.rounds last in
      let own : HasLoaders (length (rules_of old)) p = λ R l i. let below = asks R l i in omega (arith, below, in-loaders may old before p run.rounds inside, length-map old.loaders rule_of) in
      let limited : AreLimited (rules_of old) = rw inside.rules at able.limited in
      let chained = rounds-chain (may_at may old.loaders) (rules_of old) p (without_failed old.memory) last.log now.memory limited own last.made.rounds in
      rw (ap modes_of inside_last.rules) (omega (arith, last.counted, chained))

  module _ (far : FarOf S P E) (s after : SessionOf S) (run later : RunOf P E) (start : StartsPoll program text_of loaders fits may plan far s run) (plans : plans_in later.parts ≡ plans_in run.parts)
      (turn : IsTurn program text_of may run later (state_of s) (state_of after) true) (since : (old : StateOf S) → IsRun program text_of may old (state_of s) run → IsRun program text_of may old (state_of after) later) where
    -- the poll that is pending
    pub poll-ran : MayRun (program_of program text_of run) (state_of s) → PollRan may (program plan) far (polled after later)
    poll-ran able =
        let old = start.can.old in
        let was : IsReady program text_of may old (state_of s) run.parts run.rounds = rw start.can.ready at start.can.is in
        let is : IsReady program text_of may old (state_of after) later.parts later.rounds = rw turn.3 at (since old start.can.is) in
        let same : front_in (state_of s) (program_of program text_of run) ≡ front_in (state_of s) (program plan) =
        ap (λ ps. front_in (state_of s) (joint program text_of ps)) start.can.plans ∙ front-one (session_modes (state_of s)) (request_of (program plan) (text_of plan)) (state_of s).memory in
        record {
          before = state_of s;
          after = after;
          run = later;
          begins = start.begins;
          ends = refl;
          counted = turn.2 ∙ ap (λ n. n + 1) start.rounds;
          lacks = λ none. turn.0 (same ∙ none);
          ran = subst (λ loads. RoundRan may (state_of s) (state_of after) loads) same turn.1;
          within = rounds-within old (state_of s) (state_of after) run later start.can.plans (plans ∙ start.can.plans) was is able;
        }
