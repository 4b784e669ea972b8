-- Steps that are done ahead of a round. No public clause names it.
use Rattle.std.specs.Prelude.{◌≡◌, ℕ, List, Option, option_map, Result, IfOk, IfSome, OnOk}
use Rattle.load_memory.specs.Pairs.{MemoryOf}
use Rattle.execution.specs.Program.{Program}
use Rattle.execution.specs.Completion.{AnsweredOf}
use Rattle.execution.specs.Executes.{ComesNearer}
use Rattle.execution.specs.Work.{IsLeft}
use Rattle.execution.specs.declared.count_work.Counted.{Counted}
use Rattle.load_rounds.specs.Sessions.{SessionOf, memory_of}
use Rattle.load_rounds.specs.Executions.{PartOf, plans_in, told_in, left_in, FitsPart, FitParts}
use Rattle.load_rounds.specs.Runs.{RunOf}
use Rattle.load_rounds.specs.Limits.{TellsAhead}
use Rattle.load_rounds.specs.declared.limits.Limits.{Limits}
use Rattle.load_rounds.specs.declared.steps.Ahead.{Ahead}

-- a count that is made in steps tells, once it is done, what the work leaves of a limit
abbrev pub TellsCount : ℕ → ℕ → Option Counted → Type 0
TellsCount most work did = IfSome did (λ count. IsLeft most work count.left)

-- the steps that it left over
abbrev pub over : Option Counted → Option ℕ
over did = option_map (λ count. count.steps) did

module _ {P E : Type 0} (program : P → Program) (text_of : P → AnsweredOf → List ℕ)
    (loaders : P → ℕ) (fits : P → E → MemoryOf → Type 0) (left : P → E → MemoryOf → ℕ) where
  -- They do so many steps ahead over a memory: they come nearer to the end of those, and `rest` gives the steps that are left over. They have the
  -- same plans and answers, also when out of memory.
  module _ {Done Fault : Type 0} (rest : Done → Option ℕ)
      (steps : ℕ) (m : MemoryOf) (result : Result Done Fault) where
    pub record PartAhead (old new : PartOf P E) : Type 0 where
      pub same : new.plan ≡ old.plan
      pub report : new.report ≡ old.report
      pub fitting : OnOk result
          (FitsPart program text_of loaders fits new.plan new.progress new.report m)
      pub nearer : IfOk result (λ did. ComesNearer steps
          (left old.plan old.progress m) (left new.plan new.progress m) (rest did))

    pub record PartsAhead (old new : List (PartOf P E)) : Type 0 where
      pub plans : plans_in new ≡ plans_in old
      pub told : told_in new ≡ told_in old
      pub fitting : OnOk result (FitParts program text_of loaders fits new m)
      pub nearer : IfOk result (λ did. ComesNearer steps
          (left_in left old m) (left_in left new m) (rest did))

  -- Over what the session knows, within limits: what came of it is told. The plans, the answers, the count of rounds and the stage are the same,
  -- also when out of memory.
  pub record DoesSteps {S Fault : Type 0} (limits : Limits) (session : SessionOf S)
      (result : Result Ahead Fault) (run later : RunOf P E) : Type 0 where
    pub plans : plans_in later.parts ≡ plans_in run.parts
    pub told : told_in later.parts ≡ told_in run.parts
    pub rounds : later.rounds ≡ run.rounds
    pub stage : later.stage ≡ run.stage
    pub fitting : OnOk result
        (FitParts program text_of loaders fits later.parts (memory_of session))
    pub tells : IfOk result (TellsAhead program text_of left limits session run later)
