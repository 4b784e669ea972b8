use Rattle.std.proofs.Common.{◌≡◌, ◌∙◌, ap, subst}
use Rattle.std.specs.Prelude.{IfOk}
use Rattle.gq_check.specs.Plans.{PlanOf, plan_of}
use Rattle.gq_resolve.specs.PreparedPlans.{LimitedPlanOf}
use Rattle.gq_resolve.specs.StepsLeft.{CountsAhead}
use Rattle.gq_resolve.proofs.Nearing.{counted-parts}
use Rattle.gq_resolve.proofs.limited_plan.LimitedPlanCountWorkRootState.count_ahead.Goals as goal

pub returns : goal.returns
returns c =
    let plan : PlanOf = plan_of c.args.self.now.plan in
    let own : plan_of c.deref.result.now ≡ plan = ap plan_of c.deref.ensures ∙ ap (λ (l : LimitedPlanOf). plan_of l.plan) c.self.view_is in
    let parts = counted-parts plan c.args.memory.now c.args.self.now.most c.args.most c.args.steps c.args.progress.now c.count_ahead.new.progress c.count_ahead.result c.requires.fits
    (subst (λ (p : PlanOf). IfOk c.count_ahead.result (CountsAhead p c.args.memory.now c.args.most c.args.steps c.args.progress.now c.count_ahead.new.progress)) own c.count_ahead.ensures) in
    record { counted = parts.1; fits = parts.0; nearer = parts.2 }
