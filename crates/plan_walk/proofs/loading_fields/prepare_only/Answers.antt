use Rattle.std.proofs.Common.{◌≡◌, ◌∙◌, true, List, ap, sym, subst, refl, rules}
use Rattle.gq_check.specs.Plans.{PlanOf, plan_of}
use Rattle.plan_program.specs.FieldValues.{ChildrenOf, all_prepared}
use Rattle.plan_program.specs.Groups.{GroupOf, collect_subfields, nothing_collected}
use Rattle.plan_program.specs.ObjectTypes.{name_in}
use Rattle.plan_program.specs.OtherVariables.{are_fixed, with_variables}
use Rattle.plan_program.specs.Seen.{groups_of}
use Rattle.plan_program.proofs.OtherVariables.{below-prepared-alike}
use Rattle.plan_walk.specs.Groups.{children_at, type_prepared}
use Rattle.plan_walk.proofs.loading_fields.prepare_only.Goals as goal

pub returns : goal.returns
returns c =
    let plan : PlanOf = plan_of c.args.walk.now.plan.now in
    let children : ChildrenOf = children_at c.args.groups.now.items c.args.group in
    let gs : List GroupOf = groups_of c.in_ok-collected.collected.items in
    let collected : gs ≡ (collect_subfields plan (name_in c.type_below-ty.result) nothing_collected children.below).groups = search rules in
    let fixed : are_fixed gs ≡ true = search rules in
    λ vs agrees.
    let same : type_prepared (with_variables plan vs) children (name_in c.type_below-ty.result) ≡ all_prepared plan (name_in c.type_below-ty.result) gs =
    below-prepared-alike plan vs (name_in c.type_below-ty.result) agrees children.below (subst (λ (xs : List GroupOf). are_fixed xs ≡ true) collected fixed) ∙ ap (all_prepared plan (name_in c.type_below-ty.result)) (sym collected) in
    (c.in_ok-members-2.ensures (with_variables plan vs) (record { definitions = refl; same = same })).grows
