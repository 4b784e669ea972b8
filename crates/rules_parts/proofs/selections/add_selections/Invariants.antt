use Rattle.std.proofs.Common.{drop, map}
use Rattle.gq_parser.specs.Tree.{operation_of, fragment_of, document_of}
use Rattle.gq_schema.specs.Types.{tree_of}
use Rattle.rules_parts.specs.declared.source.SelectionLists.{SelectionLists}
use Rattle.rules_parts.specs.Lists.{fragments_in, AddsSelections}
use Rattle.rules_parts.specs.Selections.{operation_selections, fragment_selections, document_selections}
use Rattle.rules_parts.proofs.selections.add_selections.Given as goal

abbrev pub invariant-loop-i : goal.invariant-loop-i
invariant-loop-i l =
    (new : SelectionLists) → AddsSelections (fragments_in l.source) l.lists new (operation_selections (tree_of l.source.schema.now) l.i (map operation_of (drop l.i l.source.document.now.operations.items)))
    → AddsSelections (fragments_in l.source) l.initial.lists new (operation_selections (tree_of l.source.schema.now) 0 (map operation_of l.source.document.now.operations.items))

abbrev pub invariant-loop-i-2 : goal.invariant-loop-i-2
invariant-loop-i-2 l =
    (new : SelectionLists) → AddsSelections (fragments_in l.source) l.lists new (fragment_selections (tree_of l.source.schema.now) l.i (map fragment_of (drop l.i l.source.document.now.fragments.items)))
    → AddsSelections (fragments_in l.source) l.fn.lists new (document_selections (tree_of l.source.schema.now) (document_of l.source.document.now))
