use Rattle.std.proofs.Common.{◌≡◌, ◌++◌, drop, fold, map}
use Rattle.std.specs.Prelude.{filter_map}
use Rattle.std.specs.Option.{option_map}
use Rattle.rules_parts.specs.Broken.{broken_of, with_broken, earliest}
use Rattle.rules_parts.specs.Listing.{field_arguments}
use Rattle.rules_parts.specs.Parts.{field_part_of, argument_list_of, parts_in}
use Rattle.rules_typed.specs.RequiredArguments.{missing_argument, required_arguments}
use Rattle.rules_typed.proofs.rules.required_arguments.required_arguments.Given as goal

abbrev pub invariant-loop-part : goal.invariant-loop-part
invariant-loop-part l =
    fold with_broken (option_map broken_of l.earliest.found) (filter_map missing_argument (map field_arguments (map field_part_of (drop l.part-index l.parts.fields.items)) ++ map argument_list_of l.parts.directive_arguments.items)) ≡ earliest (required_arguments (parts_in l.parts))

abbrev pub invariant-loop-list : goal.invariant-loop-list
invariant-loop-list l =
    fold with_broken (option_map broken_of l.earliest.found) (filter_map missing_argument (map argument_list_of (drop l.list-index l.parts.directive_arguments.items))) ≡ earliest (required_arguments (parts_in l.parts))
