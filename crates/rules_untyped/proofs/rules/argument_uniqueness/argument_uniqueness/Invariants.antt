use Rattle.std.proofs.Common.{◌≡◌, ◌++◌, map, drop}
use Rattle.std.specs.List.{flat_map}
use Rattle.rules_parts.specs.Listing.{field_arguments}
use Rattle.rules_parts.specs.Parts.{field_part_of, argument_list_of, parts_in}
use Rattle.rules_parts.specs.Broken.{earliest}
use Rattle.rules_untyped.specs.Scans.{with_all}
use Rattle.rules_untyped.specs.ArgumentUniqueness.{repeated_arguments, argument_uniqueness}
use Rattle.rules_untyped.proofs.rules.argument_uniqueness.argument_uniqueness.Given as goal

abbrev pub invariant-loop-part : goal.invariant-loop-part
invariant-loop-part l =
    with_all l.earliest (flat_map repeated_arguments (map field_arguments (map field_part_of (drop l.part-index l.parts.fields.items)) ++ map argument_list_of l.parts.directive_arguments.items))
    ≡ earliest (argument_uniqueness (parts_in l.parts))

abbrev pub invariant-loop-list : goal.invariant-loop-list
invariant-loop-list l =
    with_all l.earliest (flat_map repeated_arguments (map argument_list_of (drop l.list-index l.parts.directive_arguments.items)))
    ≡ earliest (argument_uniqueness (parts_in l.parts))
