use Rattle.std.specs.Arc.{arc_value}
use Rattle.std.proofs.Common.{◌≡◌, ◌<◌, ◌∙◌, length, get_or, sym, ap, subst, arith, List}
use Rattle.std.specs.Cmp.Lexicographic.{same_text}
use Rattle.plan_walk.specs.declared.loading_fields.LoadingField.{LoadingField}
use Rattle.plan_walk.specs.declared.loading_fields.TypePositions.{TypePositions}
use Rattle.plan_walk.proofs.Grouping.{kept-there}
use Rattle.plan_walk.proofs.loading_fields.known_members.Goals as goal

pub returns-then-eq : goal.returns-then-eq
returns-then-eq c =
    let gs : List LoadingField = c.args.groups.now in
    let g : LoadingField = get_or gs c.args.group c.index-groups-group.result in
    let k = c.loop-shape.shape-index in
    let s : TypePositions = c.shape-item.result in
    let lt : k < length g.shapes = subst (λ (ss : List TypePositions). k < length ss) c.as_slice-shape-items.ensures c.loop-shape-test.true in
    let is : s ≡ get_or g.shapes k s = subst (λ (ss : List TypePositions). s ≡ get_or ss k s) c.as_slice-shape-items.ensures c.shape-item.is in
    let same : arc_value c.in_ok-try_clone.field-0 ≡ arc_value s.members = grind arith in
    rw same (kept-there gs c.args.group k g s c.args.ty.now (omega (arith, c.if-group-groups.false)) (ap (λ (x : LoadingField). get_or gs c.args.group x) c.index-groups-group.is) lt is (sym c.as_str.ensures ∙ same_text _ _ c.if-eq.ensures))
