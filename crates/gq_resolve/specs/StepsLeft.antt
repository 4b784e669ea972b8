-- How many steps of an execution are left to do ahead.
use Rattle.std.specs.Prelude.{ℕ, suc, ◌+◌, ◌-◌, length, Option, Some, None, IfSome, Box, option_map}
use Rattle.std.specs.declared.alloc.Global.{Global}
use Rattle.load_memory.specs.Pairs.{MemoryOf}
use Rattle.execution.specs.Executes.{ComesNearer}
use Rattle.execution.specs.Work.{IsLeft}
use Rattle.execution.specs.declared.count_work.Counted.{Counted}
use Rattle.gq_check.specs.Plans.{PlanOf}
use Rattle.gq_resolve.specs.Suspended.{FitsMemory, IsCounting, plan_puts}
use Rattle.gq_resolve.specs.WorkLeft.{plan_work}
use Rattle.gq_resolve.specs.declared.answer_ahead.AnswerAhead.{AnswerAhead}
use Rattle.gq_resolve.specs.declared.root_state.RootState.{RootState}
use Rattle.gq_resolve.specs.declared.work.WorkCount.{WorkCount}

-- A walk puts something at each step: so at most as many are left as it has to put. Where it isn't begun, that is one more.
abbrev pub walk_left : PlanOf → MemoryOf → Option ℕ → ℕ
walk_left plan m None = suc (length (plan_puts plan m))
walk_left plan m (Some taken) = length (plan_puts plan m) - taken

-- to write its answer
abbrev pub ahead_left : PlanOf → MemoryOf → Option (Box AnswerAhead Global) → ℕ
ahead_left plan m ahead = walk_left plan m (option_map (λ a. a.value.walked.taken) ahead)

-- to count its work
abbrev pub count_left : PlanOf → MemoryOf → Option (Box WorkCount Global) → ℕ
count_left plan m count = walk_left plan m (option_map (λ c. c.value.walked.taken) count)

-- Of the execution of a plan over a memory: to write its answer, whatever its limit is, and to count its work.
abbrev pub steps_left : PlanOf → Option ℕ → RootState → MemoryOf → ℕ
steps_left plan most s m = ahead_left plan m s.ahead + count_left plan m s.count

-- a call went on with a count, and this is what it came to
pub record CountedOn (plan : PlanOf) (m : MemoryOf) (most steps : ℕ) (old new : WorkCount)
    (did : Option Counted) : Type 0 where
  pub counting : IsCounting plan m new
  pub counted : IfSome did (λ count. IsLeft most (plan_work plan m) count.left)
  pub nearer : ComesNearer steps (walk_left plan m (Some old.walked.taken))
      (walk_left plan m (Some new.walked.taken)) (option_map (λ count. count.steps) did)

abbrev pub CountsOn : PlanOf → MemoryOf → ℕ → ℕ → WorkCount → WorkCount
    → Option Counted → Type 0
CountsOn plan m most steps old new did =
    IsCounting plan m old → CountedOn plan m most steps old new did

-- what a call wrote ahead
pub record WroteAhead (plan : PlanOf) (m : MemoryOf) (most : Option ℕ) (steps : ℕ)
    (old new : RootState) (did : Option ℕ) : Type 0 where
  pub fits : FitsMemory plan new m
  pub nearer : ComesNearer steps (steps_left plan most old m) (steps_left plan most new m) did

abbrev pub WorksAhead : PlanOf → MemoryOf → Option ℕ → ℕ → RootState → RootState
    → Option ℕ → Type 0
WorksAhead plan m most steps old new did =
    FitsMemory plan old m → WroteAhead plan m most steps old new did

-- what a call counted ahead
pub record CountedAhead (plan : PlanOf) (m : MemoryOf) (most steps : ℕ) (old new : RootState)
    (did : Option Counted) : Type 0 where
  pub fits : FitsMemory plan new m
  pub counted : IfSome did (λ count. IsLeft most (plan_work plan m) count.left)
  pub nearer : (limit : Option ℕ) → ComesNearer steps (steps_left plan limit old m)
      (steps_left plan limit new m) (option_map (λ count. count.steps) did)

abbrev pub CountsAhead : PlanOf → MemoryOf → ℕ → ℕ → RootState → RootState
    → Option Counted → Type 0
CountsAhead plan m most steps old new did =
    FitsMemory plan old m → CountedAhead plan m most steps old new did
