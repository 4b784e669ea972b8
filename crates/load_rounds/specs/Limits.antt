-- Limits of answers, on their work and on their rounds.
use Rattle.std.specs.Prelude.{◌≡◌, ◌≢◌, ◌≤◌, ◌<◌, ◌⊎◌, ◌+◌, ℕ, Bool, true, false, List, [], ◌∷◌, map, length, Option, Some, None, Result, Ok, Err, IsSome}
use Rattle.std.specs.Global.{Vec}
use Rattle.load_memory.specs.Keys.{KeyOf}
use Rattle.load_memory.specs.Pairs.{MemoryOf}
use Rattle.load_memory.specs.Replies.{ReplyOf}
use Rattle.load_queue.specs.Answers.{AnswerOf}
use Rattle.load_queue.specs.Loaders.{AreOnRecord}
use Rattle.execution.specs.Loads.{Reader, read}
use Rattle.execution.specs.Work.{work}
use Rattle.execution.specs.Program.{Program}
use Rattle.execution.specs.Completion.{AnsweredOf}
use Rattle.load_rounds.specs.Sessions.{SessionOf, StateOf, state_of, session_modes, memory_of}
use Rattle.load_rounds.specs.Calls.{RoundRan}
use Rattle.load_rounds.specs.Headline.{MakesRounds, HasHeadline}
use Rattle.load_rounds.specs.SharedRounds.{RequestOf, report_of, requests, together, SharedHeadline}
use Rattle.load_rounds.specs.Executions.{plans_in, left_in}
use Rattle.load_rounds.specs.ByHand.{front_in}
use Rattle.load_rounds.specs.Runs.{RunOf, IsRun}
use Rattle.load_rounds.specs.declared.answer.Answer.{Answer}
use Rattle.load_rounds.specs.declared.limits.Limits.{Limits}
use Rattle.load_rounds.specs.declared.limits.Excess.{Excess}
use Rattle.load_rounds.specs.declared.limits.Overrun.{Overrun}
use Rattle.load_rounds.specs.declared.limits.Excess.TheVariants.{Work, Rounds}
use Rattle.load_rounds.specs.declared.rounds.Stage.TheVariants.{Ready, Finished}
use Rattle.load_rounds.specs.declared.steps.Ahead.{Ahead}
use Rattle.load_rounds.specs.declared.steps.Ahead.TheVariants.{Working, Over, Done}

-- no limit on the work, none on the rounds, and none on the steps of a call
abbrev pub no_limits : Limits
no_limits = record { work = None; rounds = None; steps = None }

-- *Work* of several requests: that of each, added up
abbrev pub work_of_all : List RequestOf → Reader → ℕ
work_of_all [] R = 0
work_of_all (r ∷ rs) R = work r.program R + work_of_all rs R

-- an amount is at most a limit, if there is one
abbrev pub IsWithin : Option ℕ → ℕ → Type 0
IsWithin None amount = Unit {0}
IsWithin (Some most) amount = amount ≤ most

-- there is a limit, and an amount is more
abbrev pub IsOver : Option ℕ → ℕ → Type 0
IsOver None amount = ⊥
IsOver (Some most) amount = most < amount

-- tells whether an amount is more than a limit
abbrev pub TellsWork : Option ℕ → ℕ → Bool → Type 0
TellsWork limit amount true = IsOver limit amount
TellsWork limit amount false = IsWithin limit amount

module _ {S : Type 0} where
  -- over what a session knows; a position counts one while its load is missing
  abbrev pub work_in : StateOf S → List RequestOf → ℕ
  work_in s rs = work_of_all rs (read (session_modes s) s.memory)

  -- After so many rounds the answers are over a limit already, whatever is answered later: their work is, or something is missing and one
  -- round more would be.
  abbrev pub AreOver : Limits → List RequestOf → StateOf S → ℕ → Excess → Type 0
  AreOver limits rs s rounds Work = IsOver limits.work (work_in s rs)
  AreOver limits rs s rounds Rounds = IsOver limits.rounds (rounds + 1)
      × (front_in s (together rs) ≢ [])

  -- their work isn't, and one round more wouldn't be, or nothing is missing
  pub record MayGoOn (limits : Limits) (rs : List RequestOf) (s : StateOf S)
      (count : ℕ) : Type 0 where
    pub work : IsWithin limits.work (work_in s rs)
    pub rounds : IsWithin limits.rounds (count + 1) ⊎ (front_in s (together rs) ≡ [])

  -- by what is told
  abbrev pub TellsExcess : Limits → List RequestOf → StateOf S → ℕ → Option Excess → Type 0
  TellsExcess limits rs s rounds None = MayGoOn limits rs s rounds
  TellsExcess limits rs s rounds (Some excess) = AreOver limits rs s rounds excess

  -- tells whether something is missing, and one round more would be over a limit
  abbrev pub TellsRounds : Option ℕ → List RequestOf → StateOf S → ℕ → Bool → Type 0
  TellsRounds limit rs s rounds true = IsOver limit (rounds + 1)
      × (front_in s (together rs) ≢ [])
  TellsRounds limit rs s rounds false = IsWithin limit (rounds + 1)
      ⊎ (front_in s (together rs) ≡ [])

  -- answers, after so many rounds
  pub record AreWithin (limits : Limits) (rs : List RequestOf) (s : StateOf S)
      (count : ℕ) : Type 0 where
    pub work : IsWithin limits.work (work_in s rs)
    pub rounds : IsWithin limits.rounds count

  -- before the last round that was made the answers might go on
  pub record IsLastInTime (may : S → List KeyOf → AnswerOf → Type 0) (begun now : StateOf S)
      (limits : Limits) (rs : List RequestOf) : Type 0 where
    pub before : StateOf S
    pub earlier : List (List ReplyOf)
    pub made : MakesRounds may begun before (together rs) earlier
    pub might : MayGoOn limits rs before (length earlier)
    pub ran : RoundRan may before now (front_in before (together rs))

  -- Nothing is asked once the answers are over a limit: no round was made, or before the last one they might go on, and so before the others.
  abbrev pub AreAskedInTime : (S → List KeyOf → AnswerOf → Type 0)
      → StateOf S → StateOf S → Limits → List RequestOf → ℕ → Type 0
  AreAskedInTime may begun now limits rs rounds = (rounds ≡ 0)
      ⊎ IsLastInTime may begun now limits rs

  -- The answers are refused: failed batches were forgotten, these rounds were made and nothing else, and over what is known then they are
  -- over a limit, and not before. Nothing was asked off the record.
  pub record AreRefused (may : S → List KeyOf → AnswerOf → Type 0) (old new : StateOf S)
      (limits : Limits) (rs : List RequestOf) (overrun : Overrun) : Type 0 where
    pub log : List (List ReplyOf)
    pub made : MakesRounds may old new (together rs) log
    pub recorded : AreOnRecord old.loaders new.loaders
    pub counted : overrun.rounds ≡ length log
    pub over : AreOver limits rs new (length log) overrun.excess
    pub in_time : AreAskedInTime may old new limits rs (length log)

  module _ (may : S → List KeyOf → AnswerOf → Type 0) (old new : StateOf S) (limits : Limits) where
    -- an answer with the headline, within the limits; or a refusal
    abbrev pub IsAnswerWithin : RequestOf → Result Answer Overrun → Type 0
    IsAnswerWithin r (Ok a) = HasHeadline may old new r.program r.text_of a
        × AreWithin limits (r ∷ []) new a.rounds
    IsAnswerWithin r (Err overrun) = AreRefused may old new limits (r ∷ []) overrun

    -- an answer to each, with the headline of several; or one refusal
    abbrev pub AreAnswersWithin : List RequestOf → Result (Vec Answer) Overrun → Type 0
    AreAnswersWithin rs (Ok answers) =
        (headline : SharedHeadline may old new rs (map report_of answers.items))
        × AreWithin limits rs new (length headline.log)
    AreAnswersWithin rs (Err overrun) = AreRefused may old new limits rs overrun

-- a run within limits has ended: nothing is missing any more, or the answers are over a limit
abbrev pub EndsWithin : {S P E : Type 0} → (P → Program) → (P → AnsweredOf → List ℕ)
    → Limits → RunOf P E → StateOf S → Option Excess → Type 0
EndsWithin program text_of limits run s None = (run.stage ≡ Finished)
    × AreWithin limits (requests program text_of (plans_in run.parts)) s run.rounds
EndsWithin program text_of limits run s (Some excess) = (run.stage ≡ Ready)
    × AreOver limits (requests program text_of (plans_in run.parts)) s run.rounds excess

-- the rounds of a run within limits, from whichever state it was begun
abbrev pub AsksInTime : {S P E : Type 0} → (P → Program) → (P → AnsweredOf → List ℕ)
    → (S → List KeyOf → AnswerOf → Type 0) → Limits
    → StateOf S → StateOf S → RunOf P E → RunOf P E → Type 0
AsksInTime program text_of may limits old new run later = (begun : StateOf _)
    → IsRun program text_of may begun old run
    → AreAskedInTime may begun new limits
    (requests program text_of (plans_in run.parts)) later.rounds

module _ {P E : Type 0} (program : P → Program) (text_of : P → AnsweredOf → List ℕ)
    (left : P → E → MemoryOf → ℕ) {S : Type 0} where
  -- By what came of steps that are done ahead of a round: some are left, fewer than before, and there is a limit on them; or none is left, and the
  -- answers are over a limit, or may go on.
  abbrev pub TellsAhead : Limits → SessionOf S → RunOf P E → RunOf P E → Ahead → Type 0
  TellsAhead limits session run later Working = IsSome limits.steps
      × (left_in left later.parts (memory_of session) < left_in left run.parts (memory_of session))
  TellsAhead limits session run later (Over excess) =
      AreOver limits (requests program text_of (plans_in later.parts)) (state_of session)
      later.rounds excess
  TellsAhead limits session run later Done =
      MayGoOn limits (requests program text_of (plans_in later.parts)) (state_of session)
      later.rounds
