use Rattle.std.proofs.Common.{sym, ◌<◌, length, arith, rules}
use Rattle.gq_schema.proofs.EntryLaws.{type_at, entry_as, no_type, type_below, no_field, place-below, the_field, entry-below, the_entry, row-below}
use Rattle.gq_schema.proofs.schema.Schema.field_below.Goals as goal

pub returns-in_err-number-clause-definition : goal.returns-in_err-number-clause-definition
returns-in_err-number-clause-definition c =
    rw c.from_residual.ensures (sym (no_type c.args.self.now c.args.ty.now c.args.name.now c.args.entry c.requires c.in_err-number.was))

pub index-indexed-requires : goal.index-indexed-requires
index-indexed-requires c =
    let all = c.self.inside.definitions.items in
    let ty = c.args.ty.now in
    let at = type_at all ty c.args.self.now c.args.entry _ c.self.view_is c.requires c.in_ok-number.was in
    let below = type_below all ty c.in_ok-number.number at in
    omega (arith, below, c.self.inside.definitions.ok.0)

pub returns-in_err-place-clause-definition : goal.returns-in_err-place-clause-definition
returns-in_err-place-clause-definition c =
    let all = c.self.inside.definitions.items in
    let ty = c.args.ty.now in
    let at = type_at all ty c.args.self.now c.args.entry _ c.self.view_is c.requires c.in_ok-number.was in
    let number = c.in_ok-number.number in
    rw (c.from_residual-in_err-place.ensures, ← c.self.view_is) (sym (no_field all ty number c.index-indexed.result.now c.own_fields-fields.result.now at c.index-indexed.ensures c.own_fields-fields.ensures c.args.name.now (sym c.in_err-place.ensures)))

pub index-entries-requires : goal.index-entries-requires
index-entries-requires c =
    let all = c.self.inside.definitions.items in
    let ty = c.args.ty.now in
    let at = type_at all ty c.args.self.now c.args.entry _ c.self.view_is c.requires c.in_ok-number.was in
    let below = row-below all ty c.in_ok-number.number c.self.inside.field_entries.items at c.self.invariant.fields_found in
    omega (arith, below, c.self.inside.field_entries.ok.0)

pub offset_bounds-fields-place : goal.offset_bounds-fields-place
offset_bounds-fields-place c =
    let all = c.self.inside.definitions.items in
    let ty = c.args.ty.now in
    let at = type_at all ty c.args.self.now c.args.entry _ c.self.view_is c.requires c.in_ok-number.was in
    let number = c.in_ok-number.number in
    let below : c.in_ok-place.place < length c.own_fields-fields.result.now = place-below all ty number c.index-indexed.result.now c.own_fields-fields.result.now at c.index-indexed.ensures c.own_fields-fields.ensures c.args.name.now c.in_ok-place.place (sym c.in_ok-place.ensures) in
    search rules

pub bounds-fields-place : goal.bounds-fields-place
bounds-fields-place c =
    let all = c.self.inside.definitions.items in
    let ty = c.args.ty.now in
    let at = type_at all ty c.args.self.now c.args.entry _ c.self.view_is c.requires c.in_ok-number.was in
    let number = c.in_ok-number.number in
    place-below all ty number c.index-indexed.result.now c.own_fields-fields.result.now at c.index-indexed.ensures c.own_fields-fields.ensures c.args.name.now c.in_ok-place.place (sym c.in_ok-place.ensures)

pub index-requires : goal.index-requires
index-requires c =
    let all = c.self.inside.definitions.items in
    let ty = c.args.ty.now in
    let at = type_at all ty c.args.self.now c.args.entry _ c.self.view_is c.requires c.in_ok-number.was in
    let number = c.in_ok-number.number in
    let below = entry-below all ty number c.index-indexed.result.now c.own_fields-fields.result.now at c.index-indexed.ensures c.own_fields-fields.ensures c.args.name.now c.in_ok-place.place (sym c.in_ok-place.ensures) c.self.inside.field_entries.items c.index-entries.result.now c.self.invariant.fields_found c.index-entries.ensures in
    omega (arith, below, c.index-entries.result.now.ok.0)

pub invariant_of-result : goal.invariant_of-result
invariant_of-result c =
    let all = c.self.inside.definitions.items in
    let ty = c.args.ty.now in
    let at = type_at all ty c.args.self.now c.args.entry _ c.self.view_is c.requires c.in_ok-number.was in
    let number = c.in_ok-number.number in
    let entry = the_entry all ty number c.index-indexed.result.now c.own_fields-fields.result.now at c.index-indexed.ensures c.own_fields-fields.ensures c.args.name.now c.in_ok-place.place (sym c.in_ok-place.ensures) c.self.inside.field_entries.items c.index-entries.result.now c.self.invariant.fields_found c.index-entries.ensures c.index-fields-place.result c.index.result.now c.index-fields-place.is c.index.ensures in
    record { found = entry_as all c.args.self.now _ _ c.self.view_is entry }

pub returns-clause-definition : goal.returns-clause-definition
returns-clause-definition c =
    let all = c.self.inside.definitions.items in
    let ty = c.args.ty.now in
    let at = type_at all ty c.args.self.now c.args.entry _ c.self.view_is c.requires c.in_ok-number.was in
    let number = c.in_ok-number.number in
    rw (← c.self.view_is) (sym (the_field all ty number c.index-indexed.result.now c.own_fields-fields.result.now at c.index-indexed.ensures c.own_fields-fields.ensures c.args.name.now c.in_ok-place.place (sym c.in_ok-place.ensures) c.index-fields-place.result c.index-fields-place.is))
