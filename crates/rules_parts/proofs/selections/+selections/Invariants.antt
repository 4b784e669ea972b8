use Rattle.std.proofs.Common.{drop}
use Rattle.gq_parser.specs.Tree.{map_selections}
use Rattle.gq_schema.specs.Types.{tree_of}
use Rattle.rules_parts.specs.declared.source.SelectionLists.{SelectionLists}
use Rattle.rules_parts.specs.Found.{type_named}
use Rattle.rules_parts.specs.Lists.{fragments_in, AddsSelections}
use Rattle.rules_parts.specs.Selections.{selections_among}
use Rattle.rules_parts.proofs.selections.+selections.Given as goal

abbrev pub invariant-add_set-loop-selection : goal.invariant-add_set-loop-selection
invariant-add_set-loop-selection l =
    (new : SelectionLists) → AddsSelections (fragments_in l.source) l.lists new (selections_among (tree_of l.source.schema.now) l.owner (type_named l.parent) (map_selections (drop l.selection-index l.set.selections.items)))
    → AddsSelections (fragments_in l.source) l.initial.lists new (selections_among (tree_of l.source.schema.now) l.owner (type_named l.parent) (map_selections l.set.selections.items))
