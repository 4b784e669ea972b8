use Rattle.std.proofs.Common.{◌≡◌, ◌++◌, drop, map}
use Rattle.gq_parser.specs.Tree as tree
use Rattle.rules_parts.specs.Parts.{parts_in}
use Rattle.rules_spreads.specs.Known.{known_named, known_in}
use Rattle.rules_spreads.specs.Tables.{expanded_table}
use Rattle.rules_spreads.proofs.levels.next_table.Given as goal

abbrev pub invariant-loop-fragment : goal.invariant-loop-fragment
invariant-loop-fragment l =
    l.next.items ++ map (λ (f : tree.Fragment). known_in (known_named l.table (parts_in l.parts).document.fragments) f.selection_set) (map tree.fragment_of (drop l.fragment-index l.parts.document.now.fragments.items))
    ≡ expanded_table l.table (parts_in l.parts).document.fragments
