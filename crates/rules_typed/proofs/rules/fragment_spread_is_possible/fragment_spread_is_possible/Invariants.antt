use Rattle.std.proofs.Common.{◌≡◌, ◌++◌, drop, fold, map}
use Rattle.std.specs.Prelude.{filter_map}
use Rattle.std.specs.Option.{option_map}
use Rattle.gq_schema.specs.Types.{tree_of}
use Rattle.rules_parts.specs.Broken.{broken_of, with_broken, earliest}
use Rattle.rules_parts.specs.Parts.{spread_part_of, inline_part_of, parts_in}
use Rattle.rules_typed.specs.FragmentSpreadIsPossible.{impossible_spread, impossible_inline, fragment_spread_is_possible}
use Rattle.rules_typed.proofs.rules.fragment_spread_is_possible.fragment_spread_is_possible.Given as goal

abbrev pub invariant-loop-part : goal.invariant-loop-part
invariant-loop-part l =
    fold with_broken (option_map broken_of l.earliest.found) (filter_map (impossible_spread (parts_in l.parts)) (map spread_part_of (drop l.part-index l.parts.spreads.items)) ++ filter_map (impossible_inline (tree_of l.parts.schema.now)) (map inline_part_of l.parts.inlines.items)) ≡ earliest (fragment_spread_is_possible (parts_in l.parts))

abbrev pub invariant-loop-part-2 : goal.invariant-loop-part-2
invariant-loop-part-2 l =
    fold with_broken (option_map broken_of l.earliest.found) (filter_map (impossible_inline (tree_of l.parts.schema.now)) (map inline_part_of (drop l.part-index l.parts.inlines.items))) ≡ earliest (fragment_spread_is_possible (parts_in l.parts))
