use Rattle.std.proofs.Common.{◌≡◌, ◌∙◌, sym, ap, refl, ℕ, Bool, List, [], length, Option, Some, arith}
use Rattle.std.specs.Prelude.{slice_get}
use Rattle.std.specs.Option.{option_map}
use Rattle.std.proofs.lemmas.List.{length-map}
use Rattle.std.proofs.lemmas.Option.{slice_get-map, slice_get_read}
use Rattle.text_place.specs.declared.place.Place.{Place}
use Rattle.gq_parser.proofs.Views.{of_set}
use Rattle.merging_pairs.specs.Clashes.{first_clash}
use Rattle.merging_members.specs.Members.{SetOf, members_of_fragment}
use Rattle.merging_members.specs.SetMembers.{clash, place_of, clashing_of}
use Rattle.rules_parts.specs.declared.part.FieldPart as rust-field
use Rattle.rules_parts.specs.Broken.{BrokenOf, name_of}
use Rattle.rules_parts.specs.Parts.{parts_in, field_part_of}
use Rattle.merging_fields.specs.Compare.{response_key}
use Rattle.merging_fields.specs.Members.{fields_of}
use Rattle.merging_fields.specs.FieldSelectionMerging.{key_of}
use Rattle.merging_fields.specs.Reports.{report_of_set}
use Rattle.merging_fields.proofs.Twins.{at-is}
use Rattle.merging_fields.proofs.rules.field_selection_merging.report.Goals as goal

abbrev broken : List ℕ → Place → BrokenOf
broken n q = record { name = n; place = q }

-- a set with a first clash is reported with the response key of that field
report-some : (one_key clashes : ℕ → ℕ → Bool) (key : ℕ → List ℕ) (s : SetOf) (f : ℕ) (n : List ℕ) (q : Place) → Some f ≡ first_clash one_key clashes s.members → n ≡ key f → q ≡ s.place
    → Some (broken n q) ≡ report_of_set one_key clashes key s
report-some one_key clashes key s f n q first name place = rw (← first, name, place) refl

pub returns : goal.returns
returns c =
    let compared = c.args.compared.now in
    let parts = compared.grounds.parts.now in
    let p = parts_in parts in
    let number = c.in_ok-number.number in
    let f = c.index-field.result.now in
    let s = clashing_of (members_of_fragment p.document) c.args.set in
    let first : Some number ≡ first_clash (fields_of p).one_key (clash compared.rows.now compared.grounds.numbers.now) s.members = sym c.in_ok-number.was ∙ c.first_clashing.ensures.first in
    let inside = c.in_ok-number.ensures.there in
    let many = length-map parts.fields.items field_part_of in
    let there : slice_get parts.fields.items number ≡ Some f = slice_get_read parts.fields.items (length parts.fields.items) number f refl (omega (arith, inside, many)) c.index-field.ensures in
    let here : slice_get p.fields number ≡ Some (field_part_of f) = slice_get-map field_part_of parts.fields.items number ∙ ap (λ (o : Option rust-field.FieldPart). option_map field_part_of o) there in
    let key : key_of p number ≡ response_key (field_part_of f) = at-is response_key [] p.fields number (field_part_of f) here in
    let set = c.args.set.set.now in
    let place = c.of_name.ensures.place ∙ sym (ap place_of (of_set set.place set.selections)) in
    report-some (fields_of p).one_key (clash compared.rows.now compared.grounds.numbers.now) (key_of p) s number (name_of c.of_name.result.name) c.of_name.result.place first (c.of_name.ensures.name ∙ (c.response_key.ensures ∙ sym key)) place
