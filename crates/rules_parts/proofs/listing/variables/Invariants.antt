use Rattle.std.proofs.Common.{◌≡◌, ◌++◌, drop, map}
use Rattle.gq_parser.specs.Tree.{operation_of, document_of}
use Rattle.rules_parts.specs.Parts.{variable_part_of}
use Rattle.rules_parts.specs.Listing.{operation_variables, variables_in}
use Rattle.rules_parts.proofs.listing.variables.Given as goal

abbrev pub invariant-loop-i : goal.invariant-loop-i
invariant-loop-i l =
    map variable_part_of l.variables.items ++ operation_variables l.i (map operation_of (drop l.i l.document.operations.items))
    ≡ variables_in (document_of l.document)
