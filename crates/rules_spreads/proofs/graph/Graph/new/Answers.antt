use Rattle.std.proofs.Common.{◌≡◌, ◌∙◌, sym, ap, [], arith, length, map, drop, ℕ, List}
use Rattle.std.proofs.lemmas.List.{drop_all, length-map}
use Rattle.gq_parser.specs.Tree.{operation_of, fragment_of}
use Rattle.rules_parts.specs.Parts.{spread_part_of}
use Rattle.rules_spreads.specs.Graphs.{GraphOf, operation_number, fragment_number, rows_from}
use Rattle.rules_spreads.specs.Rows.{rows_in}
use Rattle.rules_spreads.proofs.RowLaws.{rows-final, graph-known}
use Rattle.rules_spreads.proofs.graph.Graph.new.Goals as goal

pub invariant_of-result : goal.invariant_of-result
invariant_of-result c =
    let spreads = c.args.parts.now.spreads.items in
    let ss = map spread_part_of spreads in
    let count = c.len-count.result in
    let many = length c.args.parts.now.document.now.operations.items in
    let left = drop c.loop-spread.spread-index spreads in
    let done : left ≡ [] = drop_all c.loop-spread.spread-index spreads (rw c.deref-spread-items.ensures.value at c.loop-spread-test.false) in
    let operations : rows_in c.loop-spread.operations.items ≡ rows_from count operation_number ss 0 many = rows-final spread_part_of count operation_number (rows_in c.loop-spread.operations.items) spreads left many done c.loop-spread.invariant.operations in
    let fragments : rows_in c.loop-spread.fragments.items ≡ rows_from count fragment_number ss 0 count = rows-final spread_part_of count fragment_number (rows_in c.loop-spread.fragments.items) spreads left count done c.loop-spread.invariant.fragments in
    record {
      known = graph-known (rows_in c.loop-spread.operations.items) (rows_in c.loop-spread.fragments.items) count many ss operations fragments;
      linked = rw c.deref-3.ensures.value at c.in_ok-edges.ensures;
    }

graphs : (os os' fs fs' : List (List ℕ)) → os ≡ os' → fs ≡ fs' → ◌≡◌ {A = GraphOf} (record { operations = os; fragments = fs }) (record { operations = os'; fragments = fs' })
graphs os os' fs fs' p q = rw (p, q)

pub returns : goal.returns
returns c =
    let spreads = c.args.parts.now.spreads.items in
    let ss = map spread_part_of spreads in
    let count = c.len-count.result in
    let many = length c.args.parts.now.document.now.operations.items in
    let left = drop c.loop-spread.spread-index spreads in
    let done : left ≡ [] = drop_all c.loop-spread.spread-index spreads (rw c.deref-spread-items.ensures.value at c.loop-spread-test.false) in
    let operations : rows_in c.loop-spread.operations.items ≡ rows_from count operation_number ss 0 many = rows-final spread_part_of count operation_number (rows_in c.loop-spread.operations.items) spreads left many done c.loop-spread.invariant.operations in
    let fragments : rows_in c.loop-spread.fragments.items ≡ rows_from count fragment_number ss 0 count = rows-final spread_part_of count fragment_number (rows_in c.loop-spread.fragments.items) spreads left count done c.loop-spread.invariant.fragments in
    let document = c.args.parts.now.document.now in
    let counted : count ≡ length (map fragment_of document.fragments.items) = omega (arith, c.len-count.ensures, length-map document.fragments.items fragment_of) in
    let all : many ≡ length (map operation_of document.operations.items) = sym (length-map document.operations.items operation_of) in
    graphs _ _ _ _
    (operations ∙ (ap (λ (n : ℕ). rows_from n operation_number ss 0 many) counted ∙ ap (λ (n : ℕ). rows_from (length (map fragment_of document.fragments.items)) operation_number ss 0 n) all))
    (fragments ∙ ap (λ (n : ℕ). rows_from n fragment_number ss 0 n) counted)
