-- Plans with a limit: what they ask of a session.
use Rattle.std.specs.Prelude.{◌≡◌, ◌≤◌, ℕ, List, Option, map, length}
use Rattle.load_memory.specs.Pairs.{MemoryOf}
use Rattle.execution.specs.Completion.{AnsweredOf}
use Rattle.gq_check.specs.Plans.{PlanOf, plan_of}
use Rattle.execution.specs.Program.{Program}
use Rattle.plan_program.specs.PlanPrograms.{plan_program}
use Rattle.load_rounds.specs.Sessions.{SessionOf}
use Rattle.load_rounds.specs.SharedRounds.{RequestOf, requests}
use Rattle.gq_resolve.specs.StepsLeft.{steps_left}
use Rattle.gq_resolve.specs.Suspended.{FitsMemory}
use Rattle.gq_resolve.specs.Within.{text_within}
use Rattle.gq_resolve.specs.declared.root_state.RootState.{RootState}
use Rattle.gq_resolve.specs.PreparedPlans.{LimitedPlanOf as LimitedPlan}

abbrev pub limited_program : LimitedPlan → Program
limited_program l = plan_program (plan_of l.plan)

abbrev pub limited_text : LimitedPlan → AnsweredOf → List ℕ
limited_text l = text_within l.most

-- its loaders are below this number
abbrev pub limited_loaders : LimitedPlan → ℕ
limited_loaders l = length (plan_of l.plan).bindings.loaders

-- an execution of it holds nothing as done that isn't so over the memory
abbrev pub limited_fits : LimitedPlan → RootState → MemoryOf → Type 0
limited_fits l state m = FitsMemory (plan_of l.plan) state m

-- how many steps of an execution of it are left to do ahead over the memory
abbrev pub limited_left : LimitedPlan → RootState → MemoryOf → ℕ
limited_left l state m = steps_left (plan_of l.plan) l.most state m

-- gives what plans ask, each within its limit
abbrev pub limited_requests : List LimitedPlan → List RequestOf
limited_requests plans = requests limited_program limited_text plans

-- gives what plans ask, all within one limit
abbrev pub requests_within : Option ℕ → List PlanOf → List RequestOf
requests_within most plans = requests plan_program (λ plan. text_within most) plans

-- the session has as many loaders as the plan's bindings
abbrev pub HasLoadersFor : {S : Type 0} → SessionOf S → LimitedPlan → Type 0
HasLoadersFor session l = length (plan_of l.plan).bindings.loaders ≤ length session.loaders

abbrev pub plan_and_limit : LimitedPlan → PlanOf × Option ℕ
plan_and_limit limited = (plan_of limited.plan, limited.most)

-- the plans, each with this limit
abbrev pub AreLimited : Option ℕ → List PlanOf → List LimitedPlan → Type 0
AreLimited most plans limited = map plan_and_limit limited ≡ map (λ plan. (plan, most)) plans
