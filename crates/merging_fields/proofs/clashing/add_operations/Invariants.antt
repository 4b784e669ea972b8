use Rattle.std.proofs.Common.{◌≡◌, ◌+◌, ◌++◌, ℕ, List, length, drop, map}
use Rattle.std.specs.Prelude.{filter, All}
use Rattle.gq_parser.specs.Tree.{operation_of}
use Rattle.merging_members.specs.Fragments.{target_at}
use Rattle.merging_members.specs.Members.{count_operations, operation_sets}
use Rattle.merging_members.specs.SetMembers.{Knows, is_clashing, clashing_of, IsInside}
use Rattle.merging_fields.proofs.clashing.add_operations.Given as goal

abbrev pub invariant-loop-operation : goal.invariant-loop-operation
invariant-loop-operation l = record {
  sets : (spread : List ℕ → List ℕ) → Knows l.walk.rows.now l.walk.numbers.now l.walk.fragments.now (target_at l.walk.targets.now) spread
      → map (clashing_of spread) l.clashing.items ++ filter (is_clashing l.walk.rows.now l.walk.numbers.now) (operation_sets spread l.next (map operation_of (drop l.operation-index l.operations)))
      ≡ map (clashing_of spread) l.initial.clashing.items ++ filter (is_clashing l.walk.rows.now l.walk.numbers.now) (operation_sets spread 0 (map operation_of l.operations));
  counted : l.next + count_operations (map operation_of (drop l.operation-index l.operations)) ≡ count_operations (map operation_of l.operations);
  inside : All (IsInside (length l.walk.numbers.now)) l.initial.clashing.items → All (IsInside (length l.walk.numbers.now)) l.clashing.items;
}
