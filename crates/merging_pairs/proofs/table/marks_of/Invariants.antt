use Rattle.std.proofs.Common.{◌≡◌, ◌<◌, ℕ, true}
use Rattle.merging_pairs.specs.Sets.{has, Common}
use Rattle.merging_pairs.specs.Table.{row, entry, FailsWith}
use Rattle.merging_pairs.proofs.table.marks_of.Given as goal

abbrev pub invariant-loop-d : goal.invariant-loop-d
invariant-loop-d l = record {
  only : (c : ℕ) → has l.marks c ≡ true → FailsWith l.rows c (has l.members);
  later : (c e : ℕ) → e < l.d → has l.members e ≡ true → entry l.rows e c ≡ true → has l.marks c ≡ true;
  earlier : (c : ℕ) → c < l.d → Common (row l.rows c) l.members → has l.marks c ≡ true;
}
