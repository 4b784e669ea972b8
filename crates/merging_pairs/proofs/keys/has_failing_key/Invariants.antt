use Rattle.std.proofs.Common.{ℕ, ◌<◌, ◌≡◌, true, false}
use Rattle.merging_pairs.specs.Numbered.{fields_of}
use Rattle.merging_pairs.specs.Sets.{has}
use Rattle.merging_pairs.proofs.keys.has_failing_key.Given as goal

abbrev pub invariant-loop-a : goal.invariant-loop-a
invariant-loop-a l = (c : ℕ) → c < l.a → (fields_of l.fields).one_key c l.f ≡ true → has l.reached.members c ≡ true → has l.reached.marks c ≡ false
