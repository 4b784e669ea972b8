use Rattle.std.proofs.Common.{◌≡◌, ◌≤◌, ◌<◌, ◌+◌, sym, ap, subst, List, length, drop, drop_of_length-le}
use Rattle.gq_parser.specs.declared.tree.Selection as rust
use Rattle.gq_parser.specs.Tree.{Selections, SelectionSet, no_selection, and_selection, set_at, set_of, selection_of, map_selections}
use Rattle.gq_parser.proofs.Views.{of_set}
use Rattle.gq_schema.specs.Types.{tree_of}
use Rattle.gq_schema.proofs.Walks.{drop-next}
use Rattle.rules_parts.specs.Found.{type_named}
use Rattle.rules_parts.specs.Lists.{fragments_in, AddsSelections}
use Rattle.rules_parts.specs.Selections.{selections_in, selections_among}
use Rattle.rules_parts.proofs.Adding.{adds-none, adds-more}
use Rattle.rules_parts.proofs.selections.+selections.Goals as goal

pub add_set-loop-selection-preserved : goal.add_set-loop-selection-preserved
add_set-loop-selection-preserved t c = λ new h.
    let fs = fragments_in c.args.source.now in
    let listed = selections_among (tree_of c.args.source.now.schema.now) c.args.owner (type_named c.args.parent) in
    let items = c.args.set.now.selections.items in
    let i = c.loop-selection.selection-index in
    let x = c.selection-item.result in
    let lt : i < length items = rw (← c.deref-selection-items.ensures.value) c.loop-selection-test.true in
    let left : map_selections (drop i items) ≡ and_selection (selection_of x) (map_selections (drop (i + 1) items)) =
    ap (λ (ss : List rust.Selection). map_selections ss) (drop-next items i x lt (rw (← c.deref-selection-items.ensures.value) c.selection-item.is)) in
    c.loop-selection.invariant new (subst (λ (ss : Selections). AddsSelections fs c.loop-selection.lists new (listed ss)) (sym left)
    (adds-more fs c.loop-selection.lists c.add_selection.new.lists new _ (listed (map_selections (drop (i + 1) items))) c.in_ok-add_selection.ensures h))

pub add_set-returns : goal.add_set-returns
add_set-returns t c =
    let fs = fragments_in c.args.source.now in
    let defs = tree_of c.args.source.now.schema.now in
    let ty = type_named c.args.parent in
    let set = c.args.set.now in
    let items = set.selections.items in
    let past : length items ≤ c.loop-selection.selection-index = rw (← c.deref-selection-items.ensures.value) c.loop-selection-test.false in
    let none : map_selections (drop c.loop-selection.selection-index items) ≡ no_selection = ap (λ (ss : List rust.Selection). map_selections ss) (drop_of_length-le items past) in
    let whole : set_of set ≡ set_at set.place (map_selections items) = of_set set.place set.selections in
    let ls = c.loop-selection.lists in
    subst (λ (s : SelectionSet). AddsSelections fs c.args.lists.now ls (selections_in defs c.args.owner ty s)) (sym whole)
    (c.loop-selection.invariant ls (subst (λ (ss : Selections). AddsSelections fs ls ls (selections_among defs c.args.owner ty ss)) (sym none) (adds-none fs ls)))
