use Rattle.std.proofs.Common.{◌≡◌, ◌∙◌, ap, refl, length, map, ◌||◌, Bool, Some, arith}
use Rattle.std.specs.Prelude.{slice_get}
use Rattle.std.proofs.Math.Logic.{∥∥₁_elim}
use Rattle.std.proofs.lemmas.Option.{slice_get_read}
use mathlib.Core.Bool.{Bool-set}
use Rattle.gq_parser.specs.Tree.{document_of}
use Rattle.gq_schema.specs.Types.{tree_of}
use Rattle.merging_pairs.specs.Sets.{has}
use Rattle.merging_members.specs.Written.{written_fields, belows}
use Rattle.merging_members.proofs.Places.{own-row}
use Rattle.rules_parts.specs.Parts.{field_part_of}
use Rattle.merging_fields.proofs.Listed.{below-at}
use Rattle.merging_fields.proofs.fields.members_of.Goals as goal

pub returns : goal.returns
returns c = λ numbers spread f own here i.
    let parts = c.args.parts.now in
    let d = document_of parts.document.now in
    let rows = c.args.members.now in
    let number = c.args.number in
    let row = c.index-members-number.result in
    let found : slice_get rows number ≡ Some row = slice_get_read rows (length rows) number row refl c.requires.there c.index-members-number.is in
    let copied : has c.add_all.new.self i ≡ has row i = c.add_all.ensures i ∙ ap (λ (b : Bool). b || has row i) (c.new-row.ensures i) in
    copied ∙ ∥∥₁_elim parts.listed (Bool-set _ _) (λ listed.
    own-row numbers spread 0 (belows (written_fields d)) rows number number f.below row own (omega arith)
    (below-at (tree_of parts.schema.now) d (map field_part_of parts.fields.items) listed number f here) found i)
