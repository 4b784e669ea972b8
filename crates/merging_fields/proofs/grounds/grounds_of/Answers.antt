use Rattle.std.proofs.Common.{◌≡◌, ◌+◌, ◌≤◌, ap, length, map, arith}
use Rattle.std.proofs.Math.Logic.{∥∥₁_elim}
use Rattle.std.specs.Coded.{le_prop}
use Rattle.gq_parser.specs.Tree.{document_of}
use Rattle.gq_schema.specs.Types.{tree_of}
use Rattle.merging_members.specs.Members.{count_operations, count_fragments}
use Rattle.rules_parts.specs.Parts.{field_part_of, parts_in}
use Rattle.rules_parts.specs.declared.parts.Parts as rust
use Rattle.merging_fields.specs.Numbered.{IsInverse}
use Rattle.merging_fields.proofs.Listed.{inside-at, counted}
use Rattle.merging_fields.proofs.grounds.grounds_of.Goals as goal

-- all fields are listed
all-counted : (parts : rust.Parts) → let d = document_of parts.document.now in count_operations d.operations + count_fragments d.fragments ≡ length (parts_in parts).fields
all-counted parts =
    let d = document_of parts.document.now in
    let defs = tree_of parts.schema.now in
    let fields = map field_part_of parts.fields.items in
    let most : count_operations d.operations + count_fragments d.fragments ≤ length fields = ∥∥₁_elim parts.listed le_prop (λ listed. let all = counted defs d fields listed in omega (arith, all)) in
    let least : length fields ≤ count_operations d.operations + count_fragments d.fragments = ∥∥₁_elim parts.listed le_prop (λ listed. let all = counted defs d fields listed in omega (arith, all)) in
    omega (arith, most, least)

pub invariant_of-result-clause-few : goal.invariant_of-result-clause-few
invariant_of-result-clause-few c =
    let order = ap length c.deref.ensures.value in
    let all = all-counted c.args.parts.now in
    let len = c.requires.numbering.len in
    let many = c.requires.numbering.many in
    omega (arith, order, all, len, many, c.requires.few)

pub invariant_of-result-clause-all : goal.invariant_of-result-clause-all
invariant_of-result-clause-all c =
    let order = ap length c.deref.ensures.value in
    let all = all-counted c.args.parts.now in
    let len = c.requires.numbering.len in
    let many = c.requires.numbering.many in
    omega (arith, order, all, len, many)

pub invariant_of-result-clause-counted : goal.invariant_of-result-clause-counted
invariant_of-result-clause-counted c = all-counted c.args.parts.now

pub invariant_of-result-clause-inverse : goal.invariant_of-result-clause-inverse
invariant_of-result-clause-inverse c =
    let numbering = c.args.numbering.now in
    let len = c.requires.numbering.len in
    let inverse : IsInverse numbering.order.items numbering.numbers.items (length numbering.order.items) = λ a lt. c.requires.numbering.all a (omega (arith, lt, len)) in
    rw (c.deref.ensures.value, c.deref-2.ensures.value) inverse

pub invariant_of-result-clause-inside : goal.invariant_of-result-clause-inside
invariant_of-result-clause-inside c = λ a f here.
    let parts = c.args.parts.now in
    ∥∥₁_elim parts.listed le_prop (λ listed. inside-at (tree_of parts.schema.now) (document_of parts.document.now) (map field_part_of parts.fields.items) listed a f here)
