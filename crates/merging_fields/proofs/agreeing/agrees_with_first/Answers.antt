use Rattle.std.proofs.Common.{◌≡◌, ◌∙◌, sym, ap, refl, ℕ, List, length, Option, Some, None, arith, if◌then◌else◌}
use Rattle.std.specs.Prelude.{slice_get, bytes_eq}
use Rattle.std.specs.Option.{option_map}
use Rattle.std.proofs.lemmas.List.{length-map}
use Rattle.std.proofs.lemmas.Option.{slice_get-map, slice_get_read}
use Rattle.merging_members.specs.Fragments.{or_else, target_at}
use Rattle.rules_parts.specs.declared.part.FieldPart as rust-field
use Rattle.rules_parts.specs.Parts.{parts_in, field_part_of}
use Rattle.merging_fields.specs.Compare.{response_key}
use Rattle.merging_fields.proofs.Seen.{seen-found, seen-new}
use Rattle.merging_fields.proofs.agreeing.agrees_with_first.Goals as goal

pub agree-requires-clause-one : goal.agree-requires-clause-one
agree-requires-clause-one c = c.requires.seen.there c.response_key-key.result.now c.in-Some.first.now (sym c.in-Some.ensures.value)

pub returns-in-Some : goal.returns-in-Some
returns-in-Some c = λ agrees.
    let p = parts_in c.args.parts.now in
    let items = c.args.parts.now.fields.items in
    let n = c.args.number in
    let x = c.index.result.now in
    let lt = c.requires.there in
    let many = length-map items field_part_of in
    let at : slice_get p.fields n ≡ Some (field_part_of x) =
    slice_get-map field_part_of items n ∙ ap (λ (o : Option rust-field.FieldPart). option_map field_part_of o) (slice_get_read items (length items) n x refl (omega (arith, lt, many)) c.index.ensures) in
    let found : target_at c.args.seen.now (response_key (field_part_of x)) ≡ Some c.in-Some.first.now = ap (target_at c.args.seen.now) (sym c.response_key-key.ensures) ∙ sym c.in-Some.ensures.value in
    seen-found p (target_at c.args.seen.now) n c.in-Some.first.now (field_part_of x) c.requires.seen at found (c.agree.ensures agrees)

pub returns-in_ok-note-in-None : goal.returns-in_ok-note-in-None
returns-in_ok-note-in-None c = λ _.
    let p = parts_in c.args.parts.now in
    let items = c.args.parts.now.fields.items in
    let n = c.args.number in
    let x = c.index.result.now in
    let lt = c.requires.there in
    let many = length-map items field_part_of in
    let at : slice_get p.fields n ≡ Some (field_part_of x) =
    slice_get-map field_part_of items n ∙ ap (λ (o : Option rust-field.FieldPart). option_map field_part_of o) (slice_get_read items (length items) n x refl (omega (arith, lt, many)) c.index.ensures) in
    let none : target_at c.args.seen.now (response_key (field_part_of x)) ≡ None = ap (target_at c.args.seen.now) (sym c.response_key-key.ensures) ∙ sym c.in-None.ensures.value in
    seen-new p (target_at c.args.seen.now) (target_at c.note.new.seen) n (field_part_of x) c.requires.seen lt at none
    (λ q. c.in_ok-note-in-None.ensures q ∙ ap (λ (k : List ℕ). or_else (target_at c.args.seen.now q) (if bytes_eq q k then Some n else None)) c.response_key-key.ensures)
