-- What was prepared of a plan serves each plan that is this one with other variables and leaves out the same.
use Rattle.std.specs.Arc.{arc_value}
use Rattle.std.proofs.Common.{◌≡◌, List, [], Vec, Global, Option, None, Some, IfSome, refl, sym, subst, ◌∙◌, arith}
use Rattle.gq_variables.specs.Variables.{VariableOf}
use Rattle.gq_schema.specs.Types.{root_in}
use Rattle.gq_check.specs.Plans.{PlanOf, PlanParts, IsSameBut, plan_of}
use Rattle.plan_program.specs.FieldValues.{all_prepared}
use Rattle.plan_program.specs.Groups.{GroupOf, selections_in, collect}
use Rattle.plan_program.specs.OtherVariables.{with_variables, AgreesOnDirectives}
use Rattle.plan_program.specs.PlanPrograms.{root_prepared}
use Rattle.plan_program.proofs.OtherVariables.{groups-alike}
use Rattle.plan_walk.specs.Groups.{AreMade, AreMadeOver, AreMadeAgain, AreRight, AreServed, Grows, GrowsAlike, IsOtherwise}
use Rattle.plan_walk.specs.declared.loading_fields.LoadingField.{LoadingField}
use Rattle.plan_walk.proofs.Grouping.{served-more}
use Rattle.gq_resolve.specs.Suspended.{IsRooted, IsAlike, IsReusable}
use Rattle.gq_resolve.specs.declared.advance.RootObject.{RootObject}
use Rattle.gq_resolve.proofs.Advancing.{rooted-more}

no-groups : (plan : PlanOf) → AreRight plan []
no-groups plan = λ k g lt. absurd (omega (arith, lt))

-- a root that was made, with what was prepared below it
pub made-reusable : (plan : PlanOf) (r : RootObject) (gs : Vec LoadingField Global) → IsRooted plan r → AreMade [] r.groups.items (root_prepared plan) (arc_value r.members).items → GrowsAlike plan r.groups.items gs.items
    → IsReusable plan (record { members = r.members; row = r.row; groups = gs })
made-reusable plan r gs rooted made grows = record {
  rooted = rooted-more plan r gs (grows plan.variables (λ name. refl)) rooted;
  right = λ vs agrees. (grows vs agrees).right ((made.over (with_variables plan vs)).grows.right (no-groups (with_variables plan vs)));
  served = λ vs agrees. served-more (with_variables plan vs) r.groups.items gs.items (root_prepared plan) (arc_value r.members).items (grows vs agrees) (made.over (with_variables plan vs)).served;
}

agrees-then : (plan : PlanOf) (us vs : List VariableOf) → AgreesOnDirectives plan us → AgreesOnDirectives (with_variables plan us) vs → AgreesOnDirectives plan vs
agrees-then plan us vs first second = λ name. second name ∙ first name

-- the collected groups of a plan's root
abbrev root_groups : PlanOf → List GroupOf
root_groups plan = collect plan (root_in plan.definitions) (selections_in plan.operation.selection_set)

again-with : (first : PlanOf) (us : List VariableOf) (r again : RootObject) (copy : List LoadingField) → AgreesOnDirectives first us → ((p : PlanOf) → Grows p r.groups.items copy)
    → AreMadeAgain (with_variables first us) (root_in first.definitions) (root_groups (with_variables first us)) (arc_value r.members).items copy again.groups.items (arc_value again.members).items → again.row ≡ [] → IsReusable first r → IsReusable (with_variables first us) again
again-with first us r again copy agrees grows made row is =
    let plan : PlanOf = with_variables first us in
    let same : root_groups plan ≡ root_groups first = groups-alike first us agrees (root_in first.definitions) (selections_in first.operation.selection_set) in
    let over : (vs : List VariableOf) → AgreesOnDirectives plan vs → AreMadeOver (with_variables first vs) copy again.groups.items (root_prepared plan) (arc_value again.members).items =
    λ vs alike.
    let q : PlanOf = with_variables first vs in
    let was : AreServed q copy (root_prepared first) (arc_value r.members).items = served-more q r.groups.items copy (root_prepared first) (arc_value r.members).items (grows q) (is.served vs (agrees-then first us vs agrees alike)) in
    made first q refl (subst (λ (gs : List GroupOf). AreServed q copy (all_prepared first (root_in first.definitions) gs) (arc_value r.members).items) (sym same) was) in
    let right : (vs : List VariableOf) → AgreesOnDirectives plan vs → AreRight (with_variables first vs) again.groups.items =
    λ vs alike. (over vs alike).grows.right ((grows (with_variables first vs)).right (is.right vs (agrees-then first us vs agrees alike))) in
    record {
      rooted = record { root = (over us (λ name. refl)).makes; row = row; right = right us (λ name. refl) };
      right = right;
      served = λ vs alike. (over vs alike).served;
    }

-- a root that is made again of one, with other variables
pub again-reusable : (first plan : PlanOf) (r again : RootObject) (copy : List LoadingField) → IsAlike first plan → ((p : PlanOf) → Grows p r.groups.items copy)
    → AreMadeAgain plan (root_in plan.definitions) (root_groups plan) (arc_value r.members).items copy again.groups.items (arc_value again.members).items → again.row ≡ [] → IsReusable first r → IsReusable plan again
again-reusable first plan r again copy alike grows made row is =
    let e : plan ≡ with_variables first plan.variables = alike.otherwise in
    subst (λ (p : PlanOf). IsReusable p again) (sym e)
    (again-with first plan.variables r again copy alike.agrees grows (subst (λ (p : PlanOf). AreMadeAgain p (root_in p.definitions) (root_groups p) (arc_value r.members).items copy again.groups.items (arc_value again.members).items) e made) row is)

-- plans that differ in their variables
pub otherwise-parts : (one other : PlanParts) → IsSameBut one other → IsOtherwise (plan_of one) (plan_of other)
otherwise-parts one other h = rw (h.definitions, h.bindings, h.operation, h.fragments) refl

-- what was prepared is a root
pub reusable-rooted : (plan : PlanOf) (prepared : Option RootObject) → IfSome prepared (IsReusable plan) → IfSome prepared (IsRooted plan)
reusable-rooted plan None h = h
reusable-rooted plan (Some r) h = h.rooted
