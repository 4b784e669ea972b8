use Rattle.std.proofs.Common.{subst}
use Rattle.std.specs.Prelude.{IfOk}
use Rattle.execution.specs.Work.{IsLeft}
use Rattle.gq_check.specs.Plans.{PlanParts, plan_of}
use Rattle.gq_resolve.specs.WorkLeft.{plan_work}
use Rattle.gq_resolve.proofs.Reusing.{reusable-rooted}
use Rattle.gq_resolve.proofs.prepared_plan.PreparedPlan.work_left.Goals as goal

pub returns : goal.returns
returns c =
    subst (λ (p : PlanParts). IfOk c.work_left.result (IsLeft c.args.most (plan_work (plan_of p) c.args.memory.now))) c.self.view_is
    (c.work_left.ensures (c.in_ok-rooted.ensures (reusable-rooted (plan_of c.self.inside.plan) c.self.inside.rooted c.self.invariant)))
