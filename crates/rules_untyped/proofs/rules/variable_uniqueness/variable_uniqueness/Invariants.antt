use Rattle.std.proofs.Common.{◌≡◌, map, drop}
use Rattle.std.specs.List.{flat_map}
use Rattle.gq_parser.specs.Tree.{operation_of}
use Rattle.rules_parts.specs.Broken.{earliest}
use Rattle.rules_untyped.specs.Scans.{with_all}
use Rattle.rules_untyped.specs.VariableUniqueness.{repeated_variables}
use Rattle.rules_untyped.proofs.rules.variable_uniqueness.variable_uniqueness.Given as goal

abbrev pub invariant-loop-operation : goal.invariant-loop-operation
invariant-loop-operation l =
    with_all l.earliest (flat_map repeated_variables (map operation_of (drop l.operation-index l.operation-items)))
    ≡ earliest (flat_map repeated_variables (map operation_of l.operation-items))
