use Rattle.std.proofs.Common.{◌≡◌, ◌++◌, drop, map}
use Rattle.gq_parser.specs.Tree.{variables_of}
use Rattle.rules_parts.specs.Parts.{variable_part_of}
use Rattle.rules_parts.specs.Listing.{variables_from}
use Rattle.rules_parts.proofs.listing.add_variables.Given as goal

abbrev pub invariant-loop-definition : goal.invariant-loop-definition
invariant-loop-definition l =
    map variable_part_of l.variables.items ++ variables_from l.operation (variables_of (drop l.definition-index l.definitions))
    ≡ map variable_part_of l.initial.variables.items ++ variables_from l.operation (variables_of l.definitions)
