use Rattle.std.proofs.Common.{◌≡◌, ◌∙◌, subst, ap}
use Rattle.load_memory.specs.Pairs.{MemoryOf}
use Rattle.gq_check.specs.Plans.{PlanOf, plan_of}
use Rattle.gq_resolve.specs.PreparedPlans.{LimitedPlanOf}
use Rattle.gq_resolve.specs.Suspended.{FitsMemory}
use Rattle.gq_resolve.proofs.limited_plan.LimitedPlanExecuteRootState.start.Goals as goal

pub returns : goal.returns
returns c =
    let own : plan_of c.plan.result.now ≡ plan_of c.args.self.now.plan = ap plan_of (c.plan.ensures ∙ c.deref.ensures) ∙ ap (λ (l : LimitedPlanOf). plan_of l.plan) c.self.view_is in
    subst (λ (plan : PlanOf). (m : MemoryOf) → FitsMemory plan c.new.result m) own c.new.ensures
