use Rattle.std.proofs.Common.{◌≡◌, ◌<◌, ◌≤◌, ℕ, length, get_or}
use Rattle.std.specs.Prelude.{bit_or}
use Rattle.merging_pairs.proofs.field_set.FieldSet.add_all.Given as goal

abbrev pub invariant-loop-k : goal.invariant-loop-k
invariant-loop-k l = record {
  len : length l.self-inside.words ≡ 16;
  done : (j : ℕ) → j < l.k → get_or l.self-inside.words j 0 ≡ bit_or (get_or l.initial.self-inside.words j 0) (get_or l.other-inside.words j 0);
  left : (j : ℕ) → l.k ≤ j → get_or l.self-inside.words j 0 ≡ get_or l.initial.self-inside.words j 0;
}
