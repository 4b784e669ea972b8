use Rattle.std.specs.Arc.{arc_value}
use Rattle.std.proofs.Common.{◌≡◌, ℕ, ◌∙◌, ap, sym, subst, refl, List, [], Vec, Global}
use Rattle.gq_parser.specs.declared.tree.SelectionSet.{SelectionSet}
use Rattle.gq_parser.specs.declared.tree.Operation.{Operation}
use Rattle.gq_parser.specs.Tree.{Selections, set_of, map_selections}
use Rattle.gq_parser.proofs.Views.{of_set}
use Rattle.schema_syntax.specs.declared.tree.Definition.{Definition}
use Rattle.gq_schema.specs.Types.{tree_of, root_in}
use Rattle.gq_check.specs.Plans.{PlanOf, plan_of}
use Rattle.plan_program.specs.FieldValues.{PreparedOf, all_prepared}
use Rattle.plan_program.specs.Groups.{selections_in, collect}
use Rattle.plan_program.specs.Seen.{groups_of}
use Rattle.plan_program.specs.PlanPrograms.{root_prepared}
use Rattle.plan_walk.specs.Groups.{AreMade}
use Rattle.plan_walk.specs.declared.loading_fields.LoadingField.{LoadingField}
use Rattle.plan_walk.specs.declared.loading_fields.Member.{Member}
use Rattle.gq_resolve.proofs.Advancing.{begun-rooted}
use Rattle.gq_resolve.proofs.advance.prepare_root.Goals as goal

pub returns-clause-made : goal.returns-clause-made
returns-clause-made c =
    let plan : PlanOf = plan_of c.args.walk.now.plan.now in
    let set : SelectionSet = c.args.walk.now.plan.now.operation.selection_set in
    let chosen : Selections = selections_in (set_of set) in
    let ss : map_selections c.deref.result.now ≡ chosen =
    ap map_selections (c.deref.ensures.value ∙ ap (λ (o : Operation). o.selection_set.selections.items) c.operation.ensures.same) ∙ sym (ap selections_in (of_set set.place set.selections)) in
    let name : List ℕ = c.root_type.result.name.now in
    let root : name ≡ root_in plan.definitions = c.root_type.ensures.name ∙ ap (λ (ds : List Definition). root_in (tree_of ds)) c.schema.ensures in
    let collected : groups_of c.in_ok-collected.collected.items ≡ collect plan name chosen =
    c.in_ok-collected.ensures ∙ (ap (λ (ty : List ℕ). collect plan ty (map_selections c.deref.result.now)) c.name.ensures ∙ ap (collect plan name) ss) in
    let ps : all_prepared plan name (groups_of c.in_ok-collected.collected.items) ≡ root_prepared plan =
    ap (all_prepared plan name) collected ∙ ap (λ (ty : List ℕ). all_prepared plan ty (collect plan ty chosen)) root in
    let made : AreMade c.new-groups.result.items c.members_of.new.groups.items (root_prepared plan) c.in_ok-members.members.items =
    subst (λ (qs : List PreparedOf). AreMade c.new-groups.result.items c.members_of.new.groups.items qs c.in_ok-members.members.items) ps c.in_ok-members.ensures in
    let shared : arc_value c.in_ok-new.field-0 ≡ c.in_ok-members.members = c.in_ok-new.ensures.ok in
    subst (λ (gs : List LoadingField). AreMade gs c.members_of.new.groups.items (root_prepared plan) (arc_value c.in_ok-new.field-0).items) c.new-groups.ensures.items
    (subst (λ (v : Vec Member Global). AreMade c.new-groups.result.items c.members_of.new.groups.items (root_prepared plan) v.items) (sym shared) made)

pub returns-clause-rooted : goal.returns-clause-rooted
returns-clause-rooted c = begun-rooted (plan_of c.args.walk.now.plan.now) _ [] refl (returns-clause-made c) c.in_ok-new-2.ensures
