use Rattle.std.specs.Arc.{arc_value}
use Rattle.std.proofs.Common.{◌≡◌, ℕ, ◌∙◌, ap, sym, subst, List, Vec, Global}
use Rattle.gq_parser.specs.declared.tree.SelectionSet.{SelectionSet}
use Rattle.gq_parser.specs.declared.tree.Operation.{Operation}
use Rattle.gq_parser.specs.Tree.{Selections, set_of, map_selections}
use Rattle.gq_parser.proofs.Views.{of_set}
use Rattle.schema_syntax.specs.declared.tree.Definition.{Definition}
use Rattle.gq_schema.specs.Types.{tree_of, root_in}
use Rattle.gq_check.specs.Plans.{PlanOf, plan_of}
use Rattle.plan_program.specs.Groups.{selections_in, collect}
use Rattle.plan_program.specs.Seen.{groups_of}
use Rattle.plan_walk.specs.Groups.{AreMadeAgain}
use Rattle.plan_walk.specs.declared.loading_fields.Member.{Member}
use Rattle.plan_program.specs.Groups.{GroupOf}
use Rattle.gq_resolve.proofs.Reusing.{again-reusable}
use Rattle.gq_resolve.proofs.advance.RootObject.again.Goals as goal

pub returns : goal.returns
returns c =
    let plan : PlanOf = plan_of c.args.plan.now in
    let set : SelectionSet = c.args.plan.now.operation.selection_set in
    let chosen : Selections = selections_in (set_of set) in
    let ss : map_selections c.deref.result.now ≡ chosen =
    ap map_selections (c.deref.ensures.value ∙ ap (λ (o : Operation). o.selection_set.selections.items) c.operation.ensures.same) ∙ sym (ap selections_in (of_set set.place set.selections)) in
    let name : List ℕ = c.root_type.result.name.now in
    let root : name ≡ root_in plan.definitions = c.root_type.ensures.name ∙ ap (λ (ds : List Definition). root_in (tree_of ds)) c.schema.ensures in
    let collected : groups_of c.in_ok-collected.collected.items ≡ collect plan name chosen =
    c.in_ok-collected.ensures ∙ (ap (λ (ty : List ℕ). collect plan ty (map_selections c.deref.result.now)) c.name.ensures ∙ ap (collect plan name) ss) in
    let before : List Member = (arc_value c.args.self.now.members).items in
    let lent : c.deref-3.result.now ≡ before = c.deref-3.ensures.value ∙ ap (λ (v : Vec Member Global). v.items) c.deref-2.ensures in
    let made : AreMadeAgain plan name (groups_of c.in_ok-collected.collected.items) before c.in_ok-groups.groups.items c.members_again.new.groups.items c.in_ok-members.members.items =
    subst (λ (ms : List Member). AreMadeAgain plan name (groups_of c.in_ok-collected.collected.items) ms c.in_ok-groups.groups.items c.members_again.new.groups.items c.in_ok-members.members.items) lent c.in_ok-members.ensures in
    let named : AreMadeAgain plan name (collect plan name chosen) before c.in_ok-groups.groups.items c.members_again.new.groups.items c.in_ok-members.members.items =
    subst (λ (gs : List GroupOf). AreMadeAgain plan name gs before c.in_ok-groups.groups.items c.members_again.new.groups.items c.in_ok-members.members.items) collected made in
    let rooted : AreMadeAgain plan (root_in plan.definitions) (collect plan (root_in plan.definitions) chosen) before c.in_ok-groups.groups.items c.members_again.new.groups.items c.in_ok-members.members.items =
    subst (λ (ty : List ℕ). AreMadeAgain plan ty (collect plan ty chosen) before c.in_ok-groups.groups.items c.members_again.new.groups.items c.in_ok-members.members.items) root named in
    let shared : arc_value c.in_ok-new.field-0 ≡ c.in_ok-members.members = c.in_ok-new.ensures.ok in
    λ first alike is. again-reusable first plan _ _ c.in_ok-groups.groups.items alike c.in_ok-groups.ensures
    (subst (λ (v : Vec Member Global). AreMadeAgain plan (root_in plan.definitions) (collect plan (root_in plan.definitions) chosen) before c.in_ok-groups.groups.items c.members_again.new.groups.items v.items) (sym shared) rooted) (c.in_ok-row.ensures.cases ∙ is.rooted.row) is
