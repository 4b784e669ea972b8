use Rattle.std.proofs.Common.{ℕ, ◌<◌, ◌≤◌, ◌≡◌, false, length}
use Rattle.merging_pairs.specs.Clashes.{TestsKey}
use Rattle.merging_pairs.specs.Numbered.{fields_of}
use Rattle.merging_pairs.specs.Sets.{has}
use Rattle.merging_pairs.proofs.keys.failing_keys.Given as goal

abbrev pub invariant-loop-f : goal.invariant-loop-f
invariant-loop-f l = record {
  tested : (c : ℕ) → c < l.f → TestsKey (fields_of l.fields).one_key l.reached.members l.reached.marks (length l.fields) c (has l.keys c);
  later : (c : ℕ) → l.f ≤ c → has l.keys c ≡ false;
}
