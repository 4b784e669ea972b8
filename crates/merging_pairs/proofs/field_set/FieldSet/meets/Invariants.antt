use Rattle.std.proofs.Common.{◌≡◌, ◌<◌, ℕ, get_or}
use Rattle.std.specs.Prelude.{bit_and}
use Rattle.merging_pairs.proofs.field_set.FieldSet.meets.Given as goal

abbrev pub invariant-loop-k : goal.invariant-loop-k
invariant-loop-k l = (j : ℕ) → j < l.k → bit_and (get_or l.self-inside.words j 0) (get_or l.other-inside.words j 0) ≡ 0
