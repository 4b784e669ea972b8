use Rattle.std.proofs.Common.{◌≡◌, map, drop}
use Rattle.std.specs.List.{filter, filter_map}
use Rattle.gq_parser.specs.Tree.{operation_of}
use Rattle.rules_parts.specs.Parts.{parts_in, field_part_of}
use Rattle.rules_parts.specs.Broken.{earliest}
use Rattle.rules_untyped.specs.Scans.{with_all}
use Rattle.rules_untyped.specs.NotServed.{operation_not_served, is_introspection, named_field, not_served}
use Rattle.rules_untyped.proofs.served.not_served.Given as goal

abbrev pub invariant-loop-operation : goal.invariant-loop-operation
invariant-loop-operation l =
    with_all l.earliest (filter_map operation_not_served (map operation_of (drop l.operation-index l.operation-items)))
    ≡ earliest (filter_map operation_not_served (map operation_of l.operation-items))

abbrev pub invariant-loop-part : goal.invariant-loop-part
invariant-loop-part l =
    with_all l.earliest (map named_field (filter is_introspection (map field_part_of (drop l.part-index l.part-items))))
    ≡ earliest (not_served (parts_in l.parts))
