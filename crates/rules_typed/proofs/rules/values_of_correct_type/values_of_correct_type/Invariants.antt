use Rattle.std.proofs.Common.{◌≡◌, ◌++◌, drop, fold, map}
use Rattle.std.specs.Prelude.{filter_map}
use Rattle.std.specs.Option.{option_map}
use Rattle.gq_schema.specs.Types.{tree_of}
use Rattle.rules_parts.specs.Broken.{broken_of, with_broken, earliest}
use Rattle.rules_parts.specs.Parts.{argument_part_of, variable_part_of, parts_in}
use Rattle.rules_typed.specs.ValuesOfCorrectType.{wrong_argument, wrong_variable, values_of_correct_type}
use Rattle.rules_typed.proofs.rules.values_of_correct_type.values_of_correct_type.Given as goal

abbrev pub invariant-loop-part : goal.invariant-loop-part
invariant-loop-part l =
    fold with_broken (option_map broken_of l.earliest.found) (filter_map (wrong_argument (tree_of l.parts.schema.now)) (map argument_part_of (drop l.part-index l.parts.arguments.items)) ++ filter_map (wrong_variable (tree_of l.parts.schema.now)) (map variable_part_of l.parts.variables.items)) ≡ earliest (values_of_correct_type (parts_in l.parts))

abbrev pub invariant-loop-part-2 : goal.invariant-loop-part-2
invariant-loop-part-2 l =
    fold with_broken (option_map broken_of l.earliest.found) (filter_map (wrong_variable (tree_of l.parts.schema.now)) (map variable_part_of (drop l.part-index l.parts.variables.items))) ≡ earliest (values_of_correct_type (parts_in l.parts))
