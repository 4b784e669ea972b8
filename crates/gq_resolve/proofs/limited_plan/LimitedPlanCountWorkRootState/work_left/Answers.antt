use Rattle.std.proofs.Common.{◌≡◌, ◌∙◌, ap, subst, IfOk}
use Rattle.execution.specs.Work.{IsLeft}
use Rattle.gq_check.specs.Plans.{PlanOf, plan_of}
use Rattle.gq_resolve.specs.PreparedPlans.{LimitedPlanOf}
use Rattle.gq_resolve.specs.WorkLeft.{plan_work}
use Rattle.gq_resolve.proofs.limited_plan.LimitedPlanCountWorkRootState.work_left.Goals as goal

pub returns : goal.returns
returns c =
    let own : plan_of c.deref.result.now ≡ plan_of c.args.self.now.plan = ap plan_of c.deref.ensures ∙ ap (λ (l : LimitedPlanOf). plan_of l.plan) c.self.view_is in
    subst (λ (plan : PlanOf). IfOk c.work_left.result (IsLeft c.args.most (plan_work plan c.args.memory.now))) own c.work_left.ensures
