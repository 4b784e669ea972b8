use Rattle.std.proofs.Common.{◌≡◌, ◌+◌, drop, map}
use Rattle.gq_parser.specs.Tree.{operation_of}
use Rattle.merging_members.specs.Members.{capped, count_operations}
use Rattle.merging_members.proofs.counting.operation_fields.Given as goal

abbrev pub invariant-loop-operation : goal.invariant-loop-operation
invariant-loop-operation l = record {
  counted : capped (l.count + count_operations (map operation_of (drop l.operation-index l.operations))) ≡ capped (count_operations (map operation_of l.operations));
  fits : capped l.count ≡ l.count;
}
