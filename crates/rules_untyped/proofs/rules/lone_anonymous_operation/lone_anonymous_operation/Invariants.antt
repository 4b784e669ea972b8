use Rattle.std.proofs.Common.{◌≡◌, map, drop}
use Rattle.std.specs.List.{filter}
use Rattle.gq_parser.specs.Tree.{operation_of}
use Rattle.rules_parts.specs.Broken.{earliest}
use Rattle.rules_untyped.specs.Scans.{with_all}
use Rattle.rules_untyped.specs.LoneAnonymousOperation.{is_anonymous, anonymous}
use Rattle.rules_untyped.proofs.rules.lone_anonymous_operation.lone_anonymous_operation.Given as goal

abbrev pub invariant-loop-operation : goal.invariant-loop-operation
invariant-loop-operation l =
    with_all l.earliest (map anonymous (filter is_anonymous (map operation_of (drop l.operation-index l.operation-items))))
    ≡ earliest (map anonymous (filter is_anonymous (map operation_of l.operation-items)))
