use Rattle.std.proofs.Common.{◌≡◌, ◌<◌, ℕ, true}
use Rattle.merging_pairs.specs.Sets.{has}
use Rattle.merging_pairs.specs.Recursions.{TestsFields}
use Rattle.merging_pairs.proofs.table.next_row.Given as goal

abbrev pub invariant-loop-a : goal.invariant-loop-a
invariant-loop-a l = record {
  below : (k : ℕ) → has l.row k ≡ true → k < l.a;
  each : (k : ℕ) → k < l.a → TestsFields l.recursion l.marks l.inner k l.b (has l.row k);
}
