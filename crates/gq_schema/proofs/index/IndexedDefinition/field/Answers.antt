use Rattle.std.proofs.Common.{◌≡◌, ◌∙◌, sym, ap, ◌<◌, length, rules}
use Rattle.std.specs.Prelude.{find}
use Rattle.schema_syntax.specs.Tree.{field_of}
use Rattle.gq_schema.specs.Types.{is_field}
use Rattle.gq_schema.specs.Places.{place_from}
use Rattle.gq_schema.proofs.PlaceLaws.{none_at, found_within, found_first}
use Rattle.gq_schema.proofs.index.IndexedDefinition.field.Goals as goal

pub returns-in_err-place : goal.returns-in_err-place
returns-in_err-place c =
    let test = is_field c.args.name.now in
    let at = ap (place_from 0 test) c.own_fields-fields.ensures ∙ sym c.in_err-place.ensures in
    rw c.from_residual.ensures (sym (none_at field_of test 0 c.own_fields-fields.result.now at) ∙ ap (find test) c.own_fields-fields.ensures)

pub offset_bounds-fields-place : goal.offset_bounds-fields-place
offset_bounds-fields-place c =
    let test = is_field c.args.name.now in
    let at = ap (place_from 0 test) c.own_fields-fields.ensures ∙ sym c.in_ok-place.ensures in
    let below : c.in_ok-place.place < length c.own_fields-fields.result.now = found_within field_of test c.own_fields-fields.result.now c.in_ok-place.place at in
    search rules

pub bounds-fields-place : goal.bounds-fields-place
bounds-fields-place c =
    let test = is_field c.args.name.now in
    let at = ap (place_from 0 test) c.own_fields-fields.ensures ∙ sym c.in_ok-place.ensures in
    found_within field_of test c.own_fields-fields.result.now c.in_ok-place.place at

pub returns : goal.returns
returns c =
    let test = is_field c.args.name.now in
    let at = ap (place_from 0 test) c.own_fields-fields.ensures ∙ sym c.in_ok-place.ensures in
    sym (found_first field_of test c.own_fields-fields.result.now c.in_ok-place.place c.index-fields-place.result at c.index-fields-place.is) ∙ ap (find test) c.own_fields-fields.ensures
