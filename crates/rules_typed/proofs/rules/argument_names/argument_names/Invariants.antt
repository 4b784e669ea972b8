use Rattle.std.proofs.Common.{◌≡◌, ◌++◌, drop, fold, map}
use Rattle.std.specs.Prelude.{filter_map, flat_map}
use Rattle.std.specs.Option.{option_map}
use Rattle.rules_parts.specs.Broken.{broken_of, with_broken, earliest}
use Rattle.rules_parts.specs.Parts.{field_part_of, argument_part_of, parts_in}
use Rattle.rules_typed.specs.ArgumentNames.{unknown_argument, type_name_arguments, argument_names}
use Rattle.rules_typed.proofs.rules.argument_names.argument_names.Given as goal

abbrev pub invariant-loop-part : goal.invariant-loop-part
invariant-loop-part l =
    fold with_broken (option_map broken_of l.earliest.found) (filter_map unknown_argument (map argument_part_of (drop l.part-index l.parts.arguments.items)) ++ flat_map type_name_arguments (map field_part_of l.parts.fields.items)) ≡ earliest (argument_names (parts_in l.parts))

abbrev pub invariant-loop-part-2 : goal.invariant-loop-part-2
invariant-loop-part-2 l =
    fold with_broken (option_map broken_of l.earliest.found) (flat_map type_name_arguments (map field_part_of (drop l.part-index l.parts.fields.items))) ≡ earliest (argument_names (parts_in l.parts))
