use Rattle.std.proofs.Common.{◌≡◌, drop, Some}
use Rattle.gq_parser.specs.Tree.{map_selections}
use Rattle.rules_parts.specs.Parts.{parts_in}
use Rattle.rules_spreads.specs.Known.{known_named, known_among, greater_known}
use Rattle.rules_spreads.proofs.levels.+levels.Given as goal

abbrev pub invariant-set_levels-loop-selection : goal.invariant-set_levels-loop-selection
invariant-set_levels-loop-selection l =
    greater_known (Some l.levels) (known_among (known_named l.table (parts_in l.parts).document.fragments) (map_selections (drop l.selection-index l.set.selections.items)))
    ≡ known_among (known_named l.table (parts_in l.parts).document.fragments) (map_selections l.set.selections.items)
