use Rattle.std.proofs.Common.{◌≡◌, ◌++◌, drop, map}
use Rattle.std.specs.Prelude.{flat_map}
use Rattle.gq_parser.specs.Tree.{operation_of, fragment_of}
use Rattle.rules_parts.specs.Parts.{variable_part_of, directive_list_of}
use Rattle.rules_parts.specs.Listing.{variable_directives, operation_directives, fragment_directives}
use Rattle.rules_parts.proofs.listing.definition_directives.Given as goal

abbrev pub invariant-loop-variable : goal.invariant-loop-variable
invariant-loop-variable l =
    map directive_list_of l.lists.items ++ flat_map variable_directives (map variable_part_of (drop l.variable-index l.variables))
    ≡ flat_map variable_directives (map variable_part_of l.variables)

abbrev pub invariant-loop-i : goal.invariant-loop-i
invariant-loop-i l =
    map directive_list_of l.lists.items ++ operation_directives l.i (map operation_of (drop l.i l.document.operations.items))
    ≡ flat_map variable_directives (map variable_part_of l.variables) ++ operation_directives 0 (map operation_of l.document.operations.items)

abbrev pub invariant-loop-i-2 : goal.invariant-loop-i-2
invariant-loop-i-2 l =
    map directive_list_of l.lists.items ++ fragment_directives l.i (map fragment_of (drop l.i l.document.fragments.items))
    ≡ (flat_map variable_directives (map variable_part_of l.variables) ++ operation_directives 0 (map operation_of l.document.operations.items)) ++ fragment_directives 0 (map fragment_of l.document.fragments.items)
