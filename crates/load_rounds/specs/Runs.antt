-- Runs: what contracts see of one, what its calls do to a session, and what was done in it since the run was begun.
use Rattle.std.specs.Prelude.{◌≡◌, ◌≢◌, ◌≤◌, ◌<◌, ◌^◌, ◌+◌, ◌++◌, ℕ, Bool, true, false, All, List, [], ◌∷◌, length, Option, Some, None, Result, OnOk, OnErr}
use Rattle.std.specs.Global.{Vec}
use Rattle.load_memory.specs.Keys.{KeyOf}
use Rattle.load_memory.specs.Pairs.{MemoryOf}
use Rattle.load_memory.specs.Replies.{ReplyOf}
use Rattle.load_queue.specs.Answers.{AnswerOf}
use Rattle.load_queue.specs.Orders.{CutOf}
use Rattle.execution.specs.Loads.{read}
use Rattle.execution.specs.Program.{Program}
use Rattle.execution.specs.Completion.{AnsweredOf}
use Rattle.execution.specs.Rounds.{AreLimited, HasLoaders, without_failed}
use Rattle.execution.specs.Executes.{FitsFrom}
use Rattle.load_rounds.specs.Sessions.{SessionOf, StateOf, state_of, rules_of, session_modes, memory_of}
use Rattle.load_rounds.specs.Calls.{RoundRan}
use Rattle.load_rounds.specs.Headline.{StopsAnswering}
use Rattle.load_rounds.specs.SharedRounds.{RequestOf, ReportOf, requests, together, AreTexts, SharedHeadline}
use Rattle.load_rounds.specs.Executions.{PartOf, plans_in, told_in, reports_in, program_in, CountRounds, FitParts}
use Rattle.load_rounds.specs.ByHand.{front_in, received, IsRound, IsUnasked, IsBetween, IsOut, AreReceivedIn}
use Rattle.load_rounds.specs.declared.rounds.Stage.{Stage}
use Rattle.load_rounds.specs.declared.rounds.Stage.TheVariants.{Ready, Out, Finished, Failed}

-- says how far the execution of each plan is, how many rounds were asked for them, with one that is out, and what may be done next
pub record RunOf (P E : Type 0) : Type 0 where
  pub parts : List (PartOf P E)
  pub rounds : ℕ
  pub stage : Stage

-- Worked ahead, the run is ready to go on; out of memory, it has failed. It has the same plans, the same answers so far, and as
-- many rounds as before.
pub record WorksAhead {P E Done Fault : Type 0} (result : Result Done Fault)
    (run later : RunOf P E) : Type 0 where
  pub ready : OnOk result (later.stage ≡ Ready)
  pub failed : OnErr result (later.stage ≡ Failed)
  pub plans : plans_in later.parts ≡ plans_in run.parts
  pub told : told_in later.parts ≡ told_in run.parts
  pub rounds : later.rounds ≡ run.rounds

module _ {S : Type 0} where
  -- Nothing is missing for any of them: there is an answer for each, and nothing changes.
  pub record AreLast (rs : List RequestOf) (old new : StateOf S)
      (reports : List ReportOf) : Type 0 where
    pub complete : front_in old (together rs) ≡ []
    pub answered : AreTexts rs (read (session_modes old) old.memory) reports
    pub same : new ≡ old

  -- a program asks loaders that the session has, and each of these takes keys
  pub record MayRun (p : Program) (s : StateOf S) : Type 0 where
    pub within : HasLoaders (length s.loaders) p
    pub limited : AreLimited (rules_of s)

  module _ {P E : Type 0} where
    -- what each call keeps: the plans, and how many loaders the session has; and the count of rounds has a bound
    pub record KeepsPlans (old new : SessionOf S) (run later : RunOf P E) : Type 0 where
      pub plans : plans_in later.parts ≡ plans_in run.parts
      pub loaders : length new.loaders ≡ length old.loaders
      pub bounded : later.rounds < 2 ^ 32

    -- The replies to the round that is out are stored, and the run is ready to go on.
    pub record TakesReplies (old new : StateOf S)
        (run later : RunOf P E) (shown : List ReplyOf) : Type 0 where
      pub stored : new ≡ received old shown
      pub ready : later ≡ record run { stage = Ready }

    -- The replies weren't stored, for want of memory: the run has failed, with as many rounds as before.
    pub record FailsToTake (old new : StateOf S) (run later : RunOf P E) : Type 0 where
      pub failed : later ≡ record run { stage = Failed }
      pub same : new ≡ old

module _ {P E : Type 0} (program : P → Program) (text_of : P → AnsweredOf → List ℕ) where
  -- the plans of a run as one program
  abbrev pub program_of : RunOf P E → Program
  program_of run = program_in program text_of run.parts

  module _ {S : Type 0} where
    -- The next round wasn't made, for want of memory: the run has failed, with as many rounds as before.
    pub record FailsToAsk (old new : StateOf S) (run later : RunOf P E) : Type 0 where
      pub failed : later.stage ≡ Failed
      pub rounds : later.rounds ≡ run.rounds
      pub lost : IsUnasked (program_of run) old new

    -- says what comes next, by what is missing
    abbrev pub IsNext : RunOf P E → RunOf P E
        → StateOf S → StateOf S → Option (Vec CutOf) → Type 0
    IsNext run later old new None =
        AreLast (requests program text_of (plans_in run.parts)) old new (reports_in later.parts)
        × (later.rounds ≡ run.rounds) × (later.stage ≡ Finished)
    IsNext run later old new (Some orders) = IsRound (program_of run) old new orders.items
        × (later.rounds ≡ run.rounds + 1) × (later.stage ≡ Out)

    module _ (may : S → List KeyOf → AnswerOf → Type 0) where
      -- one round more was made in one piece, or nothing was missing
      abbrev pub IsTurn : RunOf P E → RunOf P E → StateOf S → StateOf S → Bool → Type 0
      IsTurn run later old new true = (front_in old (program_of run) ≢ [])
          × RoundRan may old new (front_in old (program_of run))
          × (later.rounds ≡ run.rounds + 1) × (later.stage ≡ Ready)
      IsTurn run later old new false = (front_in old (program_of run) ≡ []) × (new ≡ old)
          × (later.rounds ≡ run.rounds) × (later.stage ≡ Finished)

      module _ (begun now : StateOf S) (parts : List (PartOf P E)) (rounds : ℕ) where
        -- rounds were made since the run was begun, none is out, and each execution has counted its own
        pub record IsReady : Type 0 where
          pub between : IsBetween may (program_in program text_of parts) begun now rounds
          pub counts : CountRounds program (rules_of begun)
              (without_failed begun.memory) between.log parts

        -- and then one more was asked, which is out and counts, whatever its replies are
        pub record IsAway : Type 0 where
          pub out : IsOut may (program_in program text_of parts) begun now rounds
          pub counts : (round : List ReplyOf) → CountRounds program (rules_of begun)
              (without_failed begun.memory) (out.between.log ++ round ∷ []) parts

        -- nothing is missing any more: the answers have the headline, and all rounds were counted
        pub record IsFinished : Type 0 where
          pub headline : SharedHeadline may begun now
              (requests program text_of (plans_in parts)) (reports_in parts)
          pub counted : length headline.log ≡ rounds

        -- by the stage
        abbrev pub IsRunAt : Stage → Type 0
        IsRunAt Ready = IsReady
        IsRunAt Out = IsAway
        IsRunAt Finished = IsFinished
        IsRunAt Failed = StopsAnswering may begun now (program_in program text_of parts)

      -- The session as a run that was begun on it has left it. Where nothing is missing any more, the answers have the headline.
      abbrev pub IsRun : StateOf S → StateOf S → RunOf P E → Type 0
      IsRun begun now run = IsRunAt begun now run.parts run.rounds run.stage

      -- From whichever state the run was begun: the session is as the run before the call left it, and then as the run after it does.
      abbrev pub GoesOnFrom : StateOf S → StateOf S → RunOf P E → RunOf P E → Type 0
      GoesOnFrom old new run later = (begun : StateOf S)
          → IsRun begun old run → IsRun begun new later

      -- says the same where the replies to the round that is out are as the sources may give them
      abbrev pub GoesOnIfReceived : StateOf S
          → StateOf S → RunOf P E → RunOf P E → List ReplyOf → Type 0
      GoesOnIfReceived old new run later replies =
          AreReceivedIn may (program_of run) old replies → GoesOnFrom old new run later

  module _ (loaders : P → ℕ) (fits : P → E → MemoryOf → Type 0) where
    -- By the stage: the executions hold nothing as done that isn't so over the memory, and while a round is out whatever it adds to that.
    abbrev pub FitAt : Stage → List (PartOf P E) → MemoryOf → Type 0
    FitAt Ready parts m = FitParts program text_of loaders fits parts m
    FitAt Out parts m = FitsFrom (FitParts program text_of loaders fits parts) m
    FitAt Finished parts m = Unit {0}
    FitAt Failed parts m = Unit {0}

    module _ {S : Type 0} where
      -- What holds between calls: the session has the loaders of each plan, and the executions are of this session.
      pub record Holds (run : RunOf P E) (session : SessionOf S) : Type 0 where
        pub enough : All (λ plan. loaders plan ≤ length session.loaders) (plans_in run.parts)
        pub fitting : FitAt run.stage run.parts (memory_of session)

      -- a run of these plans that is ready, of which nothing is done but that failed batches are forgotten
      pub record Begins (may : S → List KeyOf → AnswerOf → Type 0) (old new : SessionOf S)
          (plans : List P) (run : RunOf P E) : Type 0 where
        pub same : plans_in run.parts ≡ plans
        pub rounds : run.rounds ≡ 0
        pub ready : run.stage ≡ Ready
        pub is : IsRun may (state_of old) (state_of new) run
        pub holds : Holds run new
