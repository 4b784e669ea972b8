use Rattle.std.proofs.Common.{◌≡◌, ◌+◌, ℕ, List, drop, map}
use Rattle.gq_parser.specs.Tree.{operation_of}
use Rattle.merging_members.specs.Fragments.{target_at}
use Rattle.merging_members.specs.Members.{count_operations}
use Rattle.merging_members.specs.SetMembers.{Knows}
use Rattle.merging_members.specs.Written.{written_operations, belows}
use Rattle.merging_members.proofs.Adding.{Adding}
use Rattle.merging_members.proofs.gathering.gather_operations.Given as goal

abbrev pub invariant-loop-operation : goal.invariant-loop-operation
invariant-loop-operation l = record {
  counted : l.next + count_operations (map operation_of (drop l.operation-index l.operations)) ≡ count_operations (map operation_of l.operations);
  added : (spread : List ℕ → List ℕ) → Knows l.walk.rows.now l.walk.numbers.now l.walk.fragments.now (target_at l.walk.targets.now) spread
      → Adding l.walk.numbers.now (belows (written_operations (map operation_of l.operations))) spread 0 l.next (belows (written_operations (map operation_of (drop l.operation-index l.operations)))) l.initial.rows.items l.rows.items;
}
