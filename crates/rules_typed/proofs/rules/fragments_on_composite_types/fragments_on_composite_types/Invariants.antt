use Rattle.std.proofs.Common.{◌≡◌, ◌++◌, drop, fold, map}
use Rattle.std.specs.Prelude.{filter_map}
use Rattle.std.specs.Option.{option_map}
use Rattle.gq_parser.specs.Tree.{fragment_of}
use Rattle.gq_schema.specs.Types.{tree_of}
use Rattle.rules_parts.specs.Broken.{broken_of, with_broken, earliest}
use Rattle.rules_parts.specs.Parts.{inline_part_of, parts_in}
use Rattle.rules_typed.specs.TypeConditions.{condition_of, inline_condition}
use Rattle.rules_typed.specs.FragmentsOnCompositeTypes.{leaf_type, fragments_on_composite_types}
use Rattle.rules_typed.proofs.rules.fragments_on_composite_types.fragments_on_composite_types.Given as goal

abbrev pub invariant-loop-fragment : goal.invariant-loop-fragment
invariant-loop-fragment l =
    fold with_broken (option_map broken_of l.earliest.found) (filter_map (leaf_type (tree_of l.parts.schema.now)) (map condition_of (map fragment_of (drop l.fragment-index l.parts.document.now.fragments.items)) ++ filter_map inline_condition (map inline_part_of l.parts.inlines.items))) ≡ earliest (fragments_on_composite_types (parts_in l.parts))

abbrev pub invariant-loop-part : goal.invariant-loop-part
invariant-loop-part l =
    fold with_broken (option_map broken_of l.earliest.found) (filter_map (leaf_type (tree_of l.parts.schema.now)) (filter_map inline_condition (map inline_part_of (drop l.part-index l.parts.inlines.items)))) ≡ earliest (fragments_on_composite_types (parts_in l.parts))
