use Rattle.std.proofs.Common.{◌≡◌, ◌++◌, drop, map}
use Rattle.std.specs.Prelude.{flat_map}
use Rattle.rules_parts.specs.Parts.{directive_list_of, argument_list_of}
use Rattle.rules_parts.specs.Listing.{directive_arguments}
use Rattle.rules_parts.proofs.arguments.directive_arguments.Given as goal

abbrev pub invariant-loop-list : goal.invariant-loop-list
invariant-loop-list l =
    map argument_list_of l.lists.items ++ flat_map directive_arguments (map directive_list_of (drop l.list-index l.directives))
    ≡ flat_map directive_arguments (map directive_list_of l.directives)
