use Rattle.std.proofs.Common.{◌≡◌, ◌++◌, drop, map}
use Rattle.rules_parts.specs.Parts.{field_part_of, argument_list_of, argument_part_of}
use Rattle.rules_parts.specs.Listing.{field_arguments, arguments_in}
use Rattle.rules_parts.proofs.arguments.arguments.Given as goal

abbrev pub invariant-loop-field : goal.invariant-loop-field
invariant-loop-field l =
    map argument_part_of l.arguments.items ++ arguments_in (map field_arguments (map field_part_of (drop l.field-index l.fields)) ++ map argument_list_of l.lists)
    ≡ arguments_in (map field_arguments (map field_part_of l.fields) ++ map argument_list_of l.lists)

abbrev pub invariant-loop-list : goal.invariant-loop-list
invariant-loop-list l =
    map argument_part_of l.arguments.items ++ arguments_in (map argument_list_of (drop l.list-index l.lists))
    ≡ arguments_in (map field_arguments (map field_part_of l.fields) ++ map argument_list_of l.lists)
