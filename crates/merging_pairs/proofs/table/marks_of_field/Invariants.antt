use Rattle.std.proofs.Common.{◌≡◌, ◌<◌, ℕ, true}
use Rattle.merging_pairs.specs.Sets.{has}
use Rattle.merging_pairs.specs.Table.{entry, fail}
use Rattle.merging_pairs.proofs.table.marks_of_field.Given as goal

abbrev pub invariant-loop-d : goal.invariant-loop-d
invariant-loop-d l = record {
  only : (c : ℕ) → has l.marks c ≡ true → fail l.rows c l.field ≡ true;
  later : (c : ℕ) → entry l.rows l.field c ≡ true → has l.marks c ≡ true;
  earlier : (c : ℕ) → c < l.d → entry l.rows c l.field ≡ true → has l.marks c ≡ true;
}
