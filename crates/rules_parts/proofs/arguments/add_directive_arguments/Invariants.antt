use Rattle.std.proofs.Common.{◌≡◌, ◌++◌, drop, map}
use Rattle.gq_parser.specs.Tree.{directives_of}
use Rattle.rules_parts.specs.Parts.{argument_list_of}
use Rattle.rules_parts.specs.Listing.{arguments_with}
use Rattle.rules_parts.proofs.arguments.add_directive_arguments.Given as goal

abbrev pub invariant-loop-directive : goal.invariant-loop-directive
invariant-loop-directive l =
    map argument_list_of l.lists.items ++ map (arguments_with l.list.owner) (directives_of (drop l.directive-index l.list.directives.now))
    ≡ map argument_list_of l.initial.lists.items ++ map (arguments_with l.list.owner) (directives_of l.list.directives.now)
