use Rattle.std.proofs.Common.{sym, subst, rules}
use Rattle.std.specs.Prelude.{Option, IfSome}
use Rattle.gq_check.specs.Plans.{PlanOf, PlanParts, IsSameBut, plan_of}
use Rattle.plan_program.specs.OtherVariables.{AgreesOnDirectives}
use Rattle.plan_walk.specs.Groups.{IsOtherwise}
use Rattle.gq_resolve.specs.Suspended.{IsReusable}
use Rattle.gq_resolve.specs.declared.advance.RootObject.{RootObject}
use Rattle.gq_resolve.proofs.Reusing.{otherwise-parts}
use Rattle.gq_resolve.proofs.prepared_plan.PreparedPlan.again.Goals as goal
use Rattle.gq_resolve.proofs.prepared_plan.PreparedPlan.again.Goals.{in-Some+in_ok-again-in-Some, in-None}

pub invariant_of-result : goal.invariant_of-result
invariant_of-result c =
    let first : PlanOf = plan_of c.self.inside.plan in
    let other : IsOtherwise first (plan_of c.args.plan) = otherwise-parts c.self.inside.plan c.args.plan (subst (λ (p : PlanParts). IsSameBut p c.args.plan) (sym c.self.view_is) c.requires) in
    let agrees : AgreesOnDirectives first (plan_of c.args.plan).variables = c.agrees_on_directives.ensures (search rules) in
    elim c.match-self.branch [
      | in-Some+in_ok-again-in-Some w ↦
          let own : IsReusable first w.in-Some.rooted = subst (λ (rooted : Option RootObject). IfSome rooted (IsReusable first)) w.in-Some.is c.self.invariant in
          rw w.rooted-is (w.in_ok-again-in-Some.ensures first (record { otherwise = other; agrees = agrees }) own)
      | in-None w ↦ rw w.rooted-is tt
    ]
