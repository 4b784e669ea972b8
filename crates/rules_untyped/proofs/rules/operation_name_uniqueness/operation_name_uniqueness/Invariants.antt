use Rattle.std.proofs.Common.{◌≡◌, map, drop}
use Rattle.std.specs.List.{filter_map}
use Rattle.gq_parser.specs.Tree.{operation_of}
use Rattle.rules_parts.specs.Broken.{earliest}
use Rattle.rules_untyped.specs.Scans.{left}
use Rattle.rules_untyped.specs.Repeated.{repeated}
use Rattle.rules_untyped.specs.OperationNameUniqueness.{named_operation}
use Rattle.rules_untyped.proofs.rules.operation_name_uniqueness.operation_name_uniqueness.Given as goal

abbrev pub invariant-loop-operation : goal.invariant-loop-operation
invariant-loop-operation l =
    left l.names l.earliest (filter_map named_operation (map operation_of (drop l.operation-index l.operation-items)))
    ≡ earliest (repeated (filter_map named_operation (map operation_of l.operation-items)))
