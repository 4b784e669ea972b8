use Rattle.std.specs.Arc.{arc_value}
use Rattle.std.proofs.Common.{List, subst}
use Rattle.gq_check.specs.Plans.{PlanOf, plan_of}
use Rattle.plan_walk.specs.Groups.{IsShaped}
use Rattle.plan_walk.specs.declared.loading_fields.LoadingField.{LoadingField}
use Rattle.plan_walk.specs.declared.loading_fields.Member.{Member}
use Rattle.plan_walk.proofs.Grouping.{shaped-kept}
use Rattle.plan_walk.proofs.loading_fields.shape_of.Goals as goal

pub returns-in-Some : goal.returns-in-Some
returns-in-Some c =
    let plan : PlanOf = plan_of c.args.walk.now.plan.now in
    let ms : List Member = (arc_value c.in-Some.members).items in
    subst (λ (gs : List LoadingField). IsShaped plan c.args.walk.now.most gs gs c.args.group c.args.ty.now ms) c.deref.ensures.value
    (shaped-kept plan c.args.walk.now.most c.deref.result.now c.args.group c.args.ty.now ms (rw c.in-Some.is at c.in_ok-members.ensures))
