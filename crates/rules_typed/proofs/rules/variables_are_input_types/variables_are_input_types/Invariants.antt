use Rattle.std.proofs.Common.{◌≡◌, drop, fold, map}
use Rattle.std.specs.Prelude.{filter_map}
use Rattle.std.specs.Option.{option_map}
use Rattle.gq_schema.specs.Types.{tree_of}
use Rattle.rules_parts.specs.Broken.{broken_of, with_broken, earliest}
use Rattle.rules_parts.specs.Parts.{variable_part_of, parts_in}
use Rattle.rules_typed.specs.VariablesAreInputTypes.{non_input_variable, variables_are_input_types}
use Rattle.rules_typed.proofs.rules.variables_are_input_types.variables_are_input_types.Given as goal

abbrev pub invariant-loop-part : goal.invariant-loop-part
invariant-loop-part l =
    fold with_broken (option_map broken_of l.earliest.found) (filter_map (non_input_variable (tree_of l.parts.schema.now)) (map variable_part_of (drop l.part-index l.parts.variables.items))) ≡ earliest (variables_are_input_types (parts_in l.parts))
