use Rattle.std.proofs.Common.{rules, ◌≡◌, ◌∙◌, ℕ, List, Bool, false, Some, None, ap, sym}
use Rattle.std.specs.Prelude.{codes, bytes_eq}
use Rattle.std.specs.Borrow.{Bor}
use Rattle.std.specs.List.{slice_get}
use Rattle.gq_parser.specs.declared.tree.Field.{Field}
use Rattle.schema_syntax.specs.Tree.{Field as Defined, field_of}
use Rattle.gq_schema.specs.Types.{field_in}
use Rattle.gq_check.specs.Plans.{PlanOf, plan_of}
use Rattle.plan_program.specs.Groups.{FieldOf}
use Rattle.plan_program.specs.Fields.{field_seen, fields_seen}
use Rattle.plan_program.specs.ObjectTypes.{name_in}
use Rattle.execution.specs.Program.{Null}
use Rattle.text_place.specs.declared.place.Place.{Place}
use Rattle.gq_parser.specs.Types.{is_non_null}
use Rattle.plan_program.specs.FieldValues.{ValueFrom, PreparedOf, position_of, known}
use Rattle.plan_program.specs.Prepared.{value_from_seen, defined_by}
use Rattle.plan_program.proofs.Preparing.{undefined, defined}
use Rattle.plan_program.proofs.preparation.prepare_group.Goals as goal

pub returns-in_default-definition_of : goal.returns-in_default-definition_of
returns-in_default-definition_of c =
    let plan : PlanOf = plan_of c.args.plan.now in
    let x : Bor Field = c.in-Some.first.now in
    let f : FieldOf = field_seen x.now in
    let null_at : Place → PreparedOf = λ p. record { position = position_of c.args.group.now.key.now p false; asked = known Null } in
    let starts : slice_get c.args.group.now.fields 0 ≡ Some x = search rules in
    let own : bytes_eq f.name (codes "__typename") ≡ false = search rules in
    let none : field_in plan.definitions (name_in c.args.ty.now) f.name ≡ None = search rules in
    let here = undefined plan (name_in c.args.ty.now) c.args.group.now x starts own none in
    let keyed : List ℕ → Place → PreparedOf = λ k p. record { position = position_of k p false; asked = known Null } in
    c.null_at-in_default-definition_of.ensures ∙ (ap (λ (k : List ℕ). keyed k c.place_of-place.result) c.in_ok-key.ensures.ok ∙ (ap (λ (p : Place). null_at p) c.place_of-place.ensures ∙ sym here))

pub returns : goal.returns
returns c =
    let plan : PlanOf = plan_of c.args.plan.now in
    let x : Bor Field = c.in-Some.first.now in
    let f : FieldOf = field_seen x.now in
    let d : Defined = field_of c.in-Some-definition_of.definition.now in
    let keyed : List ℕ → Place → Bool → ValueFrom → PreparedOf = λ k p n v. record { position = position_of k p n; asked = v } in
    let made : Place → Bool → ValueFrom → PreparedOf = λ p n v. record { position = position_of c.args.group.now.key.now p n; asked = v } in
    let starts : slice_get c.args.group.now.fields 0 ≡ Some x = search rules in
    let own : bytes_eq f.name (codes "__typename") ≡ false = search rules in
    let some : field_in plan.definitions (name_in c.args.ty.now) f.name ≡ Some d = search rules in
    let here = defined plan (name_in c.args.ty.now) c.args.group.now x d starts own some in
    let asked : value_from_seen c.in_ok-asked.asked ≡ defined_by plan (name_in c.args.ty.now) f (fields_seen c.args.group.now.fields) d = search rules in
    let non_null : c.is_non_null.result ≡ is_non_null d.of_type = search rules in
    ap (λ (k : List ℕ). keyed k c.place_of-place.result c.is_non_null.result (value_from_seen c.in_ok-asked.asked)) c.in_ok-key.ensures.ok
    ∙ (ap (λ (p : Place). made p c.is_non_null.result (value_from_seen c.in_ok-asked.asked)) c.place_of-place.ensures
    ∙ (ap (λ (n : Bool). made f.place n (value_from_seen c.in_ok-asked.asked)) non_null
    ∙ (ap (made f.place (is_non_null d.of_type)) asked ∙ sym here)))
