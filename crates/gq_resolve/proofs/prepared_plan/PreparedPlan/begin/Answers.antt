use Rattle.std.proofs.Common.{subst}
use Rattle.std.proofs.lemmas.Result.{on_ok_weaker}
use Rattle.std.specs.Prelude.{Option, IfSome}
use Rattle.gq_check.specs.Plans.{PlanOf, PlanParts, plan_of}
use Rattle.gq_resolve.specs.Suspended.{IsReusable, IsRooted}
use Rattle.gq_resolve.specs.declared.advance.RootObject.{RootObject}
use Rattle.gq_resolve.proofs.prepared_plan.PreparedPlan.begin.Goals as goal

pub returns-in-Some-clause-fits : goal.returns-in-Some-clause-fits
returns-in-Some-clause-fits c =
    let plan : PlanOf = plan_of c.args.self.now in
    let own : IsReusable (plan_of c.self.inside.plan) c.in-Some.rooted = subst (λ (rooted : Option RootObject). IfSome rooted (IsReusable (plan_of c.self.inside.plan))) c.in-Some.is c.self.invariant in
    on_ok_weaker c.begin_prepared.result (λ begun. begun (subst (λ (p : PlanParts). IsRooted (plan_of p) c.in-Some.rooted) c.self.view_is own.rooted)) (c.begin_prepared.ensures.fits plan)
