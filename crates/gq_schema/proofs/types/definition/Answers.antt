use Rattle.std.proofs.Common.{◌∙◌, sym, ◌<◌, length, map, rules}
use Rattle.schema_syntax.specs.Tree.{definition_of}
use Rattle.gq_schema.specs.Indexes.{definition_in}
use Rattle.gq_schema.specs.Types.{defines}
use Rattle.gq_schema.proofs.PlaceLaws.{none_at, seen_within, seen_first}
use Rattle.gq_schema.proofs.types.definition.Goals as goal

pub returns-in_err-place : goal.returns-in_err-place
returns-in_err-place c =
    let q = c.args.name.now in
    let all = c.args.definitions.now in
    let at = sym (c.requires q) ∙ sym c.in_err-place.ensures.value in
    rw c.from_residual.ensures (sym (none_at definition_of (defines q) 0 (map definition_in all) at))

pub offset_bounds-definitions-place : goal.offset_bounds-definitions-place
offset_bounds-definitions-place c =
    let q = c.args.name.now in
    let all = c.args.definitions.now in
    let below : c.in_ok-place.field-0.now < length all = seen_within definition_of definition_in (defines q) all c.in_ok-place.field-0.now (sym (c.requires q) ∙ sym c.in_ok-place.ensures.value) in
    search rules

pub bounds-definitions-place : goal.bounds-definitions-place
bounds-definitions-place c =
    let q = c.args.name.now in
    seen_within definition_of definition_in (defines q) c.args.definitions.now c.in_ok-place.field-0.now (sym (c.requires q) ∙ sym c.in_ok-place.ensures.value)

pub returns : goal.returns
returns c =
    let q = c.args.name.now in
    sym (seen_first definition_of definition_in (defines q) c.args.definitions.now c.in_ok-place.field-0.now c.index-definitions-place.result (sym (c.requires q) ∙ sym c.in_ok-place.ensures.value) c.index-definitions-place.is)
