-- Executions of several plans, which share rounds: what contracts see of them, and how far each is.
use Rattle.std.specs.Prelude.{◌≡◌, ◌≢◌, ◌⊎◌, ◌+◌, ◌++◌, ℕ, List, [], ◌∷◌, map, length, Option, Some, None}
use Rattle.load_memory.specs.Pairs.{MemoryOf, look}
use Rattle.load_memory.specs.Replies.{ReplyOf}
use Rattle.execution.specs.Loads.{Load, Memory, read}
use Rattle.execution.specs.Program.{Program}
use Rattle.execution.specs.Completion.{AnsweredOf}
use Rattle.execution.specs.Front.{front}
use Rattle.execution.specs.Rounds.{RuleOf, HasLoaders, own_rounds}
use Rattle.execution.specs.Executes.{GrowsTo, IsTextOf}
use Rattle.execution.specs.Reads.{count_read, counted}
use Rattle.load_rounds.specs.SharedRounds.{RequestOf, ReportOf, request_of, joint}

-- one of several: what is executed, its execution, and its answer once nothing that it needs is missing
pub record PartOf (P E : Type 0) : Type 0 where
  pub plan : P
  pub progress : E
  pub report : Option ReportOf

-- an answer over a memory that has everything that is needed
pub record IsDone (loaders : ℕ) (r : RequestOf) (m : MemoryOf) (report : ReportOf) : Type 0 where
  pub complete : front m.modes r.program (look m.pairs) ≡ []
  pub answered : IsTextOf r.text_of r.program (read m.modes (look m.pairs)) report.text
  pub within : HasLoaders loaders r.program
  pub loads : report.loads ≡ counted (count_read r.program (read m.modes (look m.pairs)))

-- By what is missing: no answer yet, or, once nothing is, the answer that was there or one after `rounds` rounds.
abbrev pub TellsAt : ℕ → List Load → Option ReportOf → Option ReportOf → Type 0
TellsAt rounds loads old None = (loads ≢ []) × (old ≡ None)
TellsAt rounds loads old (Some report) = (loads ≡ [])
    × ((old ≡ Some report) ⊎ ((old ≡ None) × (report.rounds ≡ rounds)))

-- of the rounds of a log, those of a program that has no answer yet are all; else they are those that its answer tells
abbrev pub CountsRounds : List RuleOf → Memory
    → List (List ReplyOf) → Program → Option ReportOf → Type 0
CountsRounds rules M log p None = own_rounds rules p M log ≡ length log
CountsRounds rules M log p (Some report) = own_rounds rules p M log ≡ report.rounds

abbrev pub given_to : Option ReportOf → List ReportOf
given_to None = []
given_to (Some report) = report ∷ []

module _ {P E : Type 0} where
  abbrev pub plans_in : List (PartOf P E) → List P
  plans_in parts = map (λ part. part.plan) parts

  -- what each tells so far: its answer, if it has one
  abbrev pub told_in : List (PartOf P E) → List (Option ReportOf)
  told_in parts = map (λ part. part.report) parts

  -- the plans as one program
  abbrev pub program_in : (P → Program) → (P → AnsweredOf → List ℕ) → List (PartOf P E) → Program
  program_in program text_of parts = joint program text_of (plans_in parts)

  -- the answer of the first
  abbrev pub first_report : List (PartOf P E) → Option ReportOf
  first_report [] = None
  first_report (x ∷ xs) = x.report

  -- the answers so far, in order
  abbrev pub reports_in : List (PartOf P E) → List ReportOf
  reports_in [] = []
  reports_in (x ∷ xs) = given_to x.report ++ reports_in xs

  -- how many steps are left to do ahead over a memory, of all of them
  abbrev pub left_in : (P → E → MemoryOf → ℕ) → List (PartOf P E) → MemoryOf → ℕ
  left_in left [] m = 0
  left_in left (x ∷ xs) m = left x.plan x.progress m + left_in left xs m

  -- each has counted the rounds of a log
  abbrev pub CountRounds : (P → Program) → List RuleOf → Memory
      → List (List ReplyOf) → List (PartOf P E) → Type 0
  CountRounds program rules M log [] = Unit {0}
  CountRounds program rules M log (x ∷ xs) = CountsRounds rules M log (program x.plan) x.report
      × CountRounds program rules M log xs

  module _ (program : P → Program) (text_of : P → AnsweredOf → List ℕ) (loaders : P → ℕ)
      (fits : P → E → MemoryOf → Type 0) where
    abbrev pub FitsPart : P → E → Option ReportOf → MemoryOf → Type 0
    FitsPart plan progress None m = fits plan progress m
    FitsPart plan progress (Some report) m =
        IsDone (loaders plan) (request_of (program plan) (text_of plan)) m report
        × fits plan progress m

    -- each is of an execution, and holds nothing as done that isn't so over the memory
    abbrev pub FitParts : List (PartOf P E) → MemoryOf → Type 0
    FitParts [] m = Unit {0}
    FitParts (x ∷ xs) m = FitsPart x.plan x.progress x.report m × FitParts xs m

    -- one of them went on over a memory, after `rounds` rounds
    pub record GoesOn (rounds : ℕ) (m : MemoryOf) (old new : PartOf P E) : Type 0 where
      pub same : new.plan ≡ old.plan
      pub report : TellsAt rounds
          (front m.modes (program old.plan) (look m.pairs)) old.report new.report
      pub fitting : (later : MemoryOf) → GrowsTo m later
          → FitsPart new.plan new.progress new.report later
      pub within : HasLoaders (loaders new.plan) (program new.plan)

    -- those of these plans, of which nothing is done
    pub record AreBegun (plans : List P) (parts : List (PartOf P E)) : Type 0 where
      pub same : plans_in parts ≡ plans
      pub unreported : reports_in parts ≡ []
      pub fitting : (m : MemoryOf) → FitParts parts m
