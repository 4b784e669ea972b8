use Rattle.std.proofs.Common.{◌≡◌, ◌≤◌, ◌<◌, ◌+◌, ◌∷◌, [], sym, ap, subst, List, length, drop, drop_of_length-le, map}
use Rattle.gq_parser.specs.Tree.{Operation, Fragment, operation_of, fragment_of}
use Rattle.gq_schema.specs.Types.{tree_of}
use Rattle.gq_schema.proofs.Walks.{drop-next}
use Rattle.rules_parts.specs.Lists.{fragments_in, AddsSelections}
use Rattle.rules_parts.specs.Selections.{operation_selections, fragment_selections}
use Rattle.rules_parts.proofs.Adding.{adds-none, adds-more}
use Rattle.rules_parts.proofs.selections.add_selections.Goals as goal

pub loop-i-preserved : goal.loop-i-preserved
loop-i-preserved c = λ new h.
    let fs = fragments_in c.args.source.now in
    let defs = tree_of c.args.source.now.schema.now in
    let items = c.args.source.now.document.now.operations.items in
    let i = c.loop-i.i in
    let x = c.operation-item.result in
    let rest = map operation_of (drop (i + 1) items) in
    let lt : i < length items = rw (← c.deref-operation-items.ensures.value) c.loop-i-test.true in
    let left : map operation_of (drop i items) ≡ operation_of x ∷ rest =
    ap (map operation_of) (drop-next items i x lt (rw (← c.deref-operation-items.ensures.value) c.operation-item.is)) in
    c.loop-i.invariant new (subst (λ (os : List Operation). AddsSelections fs c.loop-i.lists new (operation_selections defs i os)) (sym left)
    (adds-more fs c.loop-i.lists c.add_set.new.lists new _ (operation_selections defs (i + 1) rest) (rw c.inside_operation-inside.ensures.name at c.in_ok-add_set.ensures) h))

-- operations first, and then fragments
pub loop-i-2-init : goal.loop-i-2-init
loop-i-2-init c = λ new h.
    let fs = fragments_in c.args.source.now in
    let defs = tree_of c.args.source.now.schema.now in
    let items = c.args.source.now.document.now.operations.items in
    let ls = c.loop-i.lists in
    let past : length items ≤ c.loop-i.i = rw (← c.deref-operation-items.ensures.value) c.loop-i-test.false in
    let none : map operation_of (drop c.loop-i.i items) ≡ [] = ap (map operation_of) (drop_of_length-le items past) in
    adds-more fs c.args.lists.now ls new (operation_selections defs 0 (map operation_of items)) _
    (c.loop-i.invariant ls (subst (λ (os : List Operation). AddsSelections fs ls ls (operation_selections defs c.loop-i.i os)) (sym none) (adds-none fs ls))) h

pub loop-i-2-preserved : goal.loop-i-2-preserved
loop-i-2-preserved c = λ new h.
    let fs = fragments_in c.args.source.now in
    let defs = tree_of c.args.source.now.schema.now in
    let items = c.args.source.now.document.now.fragments.items in
    let i = c.loop-i-2.i in
    let x = c.fragment-item.result in
    let rest = map fragment_of (drop (i + 1) items) in
    let lt : i < length items = rw (← c.deref-fragment-items.ensures.value) c.loop-i-2-test.true in
    let left : map fragment_of (drop i items) ≡ fragment_of x ∷ rest =
    ap (map fragment_of) (drop-next items i x lt (rw (← c.deref-fragment-items.ensures.value) c.fragment-item.is)) in
    c.loop-i-2.invariant new (subst (λ (gs : List Fragment). AddsSelections fs c.loop-i-2.lists new (fragment_selections defs i gs)) (sym left)
    (adds-more fs c.loop-i-2.lists c.add_set-in-loop-i-2.new.lists new _ (fragment_selections defs (i + 1) rest) (rw c.inside_condition-inside.ensures.name at c.in_ok-add_set-2.ensures) h))
