use Rattle.std.proofs.Common.{subst}
use Rattle.std.specs.Prelude.{IfOk}
use Rattle.gq_check.specs.Plans.{PlanParts, plan_of}
use Rattle.gq_resolve.specs.StepsLeft.{CountsAhead}
use Rattle.gq_resolve.proofs.Reusing.{reusable-rooted}
use Rattle.gq_resolve.proofs.prepared_plan.PreparedPlan.count_ahead.Goals as goal

pub returns : goal.returns
returns c =
    subst (λ (p : PlanParts). IfOk c.count_ahead.result (CountsAhead (plan_of p) c.args.memory.now c.args.most c.args.steps c.args.progress.now c.count_ahead.new.self)) c.self.view_is
    (c.count_ahead.ensures (reusable-rooted (plan_of c.self.inside.plan) c.self.inside.rooted c.self.invariant))
