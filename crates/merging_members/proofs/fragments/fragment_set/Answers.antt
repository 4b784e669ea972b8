use Rattle.std.proofs.Common.{◌≡◌, ◌∙◌, sym, ap, ℕ, List, length, map, Some, arith}
use Rattle.std.specs.Prelude.{slice_get}
use Rattle.gq_parser.specs.Tree.{Fragment, fragment_of, operation_of}
use Rattle.merging_members.specs.Members.{count_operations, starts_from}
use Rattle.merging_members.proofs.Learning.{named-at, start-inside, starts-length}
use Rattle.merging_members.proofs.Placing.{fragment-at}
use Rattle.merging_members.proofs.fragments.fragment_set.Goals as goal

pub start_of-requires : goal.start_of-requires
start_of-requires c =
    let source = c.args.source.now in
    let fragments = map fragment_of source.document.now.fragments.items in
    let base = count_operations (map operation_of source.document.now.operations.items) in
    let many = starts-length base fragments in
    let same = ap length source.started in
    record { there = omega (arith, c.requires.there, many, same) }

pub returns-clause-set : goal.returns-clause-set
returns-clause-set c = λ f at.
    let here = fragment-at c.args.source.now.document.now.fragments.items c.args.target c.index.result.now c.requires.there c.index.ensures in
    let same : fragment_of c.index.result.now ≡ f = cc in
    ap (λ (g : Fragment). g.selection_set) same

pub returns-clause-members : goal.returns-clause-members
returns-clause-members c = λ spread name at.
    let source = c.args.source.now in
    let j = c.args.target in
    let fragments = map fragment_of source.document.now.fragments.items in
    let base = count_operations (map operation_of source.document.now.operations.items) in
    let here = fragment-at source.document.now.fragments.items j c.index.result.now c.requires.there c.index.ensures in
    let start : slice_get (starts_from base fragments) j ≡ Some c.start_of.result = ap (λ (ns : List ℕ). slice_get ns j) (sym source.started) ∙ c.start_of.ensures in
    named-at spread name 0 base fragments j j c.start_of.result (fragment_of c.index.result.now) at (omega arith) here start

pub returns-clause-inside : goal.returns-clause-inside
returns-clause-inside c =
    let source = c.args.source.now in
    let j = c.args.target in
    let fragments = map fragment_of source.document.now.fragments.items in
    let base = count_operations (map operation_of source.document.now.operations.items) in
    let here = fragment-at source.document.now.fragments.items j c.index.result.now c.requires.there c.index.ensures in
    let start : slice_get (starts_from base fragments) j ≡ Some c.start_of.result = ap (λ (ns : List ℕ). slice_get ns j) (sym source.started) ∙ c.start_of.ensures in
    let le = start-inside base fragments j c.start_of.result (fragment_of c.index.result.now) here start in
    let counted = source.counted in
    omega (arith, le, counted)
