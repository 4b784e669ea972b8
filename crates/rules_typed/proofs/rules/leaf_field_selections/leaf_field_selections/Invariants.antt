use Rattle.std.proofs.Common.{◌≡◌, drop, fold, map}
use Rattle.std.specs.Prelude.{filter_map}
use Rattle.std.specs.Option.{option_map}
use Rattle.gq_schema.specs.Types.{tree_of}
use Rattle.rules_parts.specs.Broken.{broken_of, with_broken, earliest}
use Rattle.rules_parts.specs.Parts.{field_part_of, parts_in}
use Rattle.rules_typed.specs.LeafFieldSelections.{misfit_field, leaf_field_selections}
use Rattle.rules_typed.proofs.rules.leaf_field_selections.leaf_field_selections.Given as goal

abbrev pub invariant-loop-part : goal.invariant-loop-part
invariant-loop-part l =
    fold with_broken (option_map broken_of l.earliest.found) (filter_map (misfit_field (tree_of l.parts.schema.now)) (map field_part_of (drop l.part-index l.parts.fields.items))) ≡ earliest (leaf_field_selections (parts_in l.parts))
