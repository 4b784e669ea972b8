use Rattle.std.proofs.Common.{◌≡◌, ℕ, [], length, get_or}
use Rattle.flat_rows.proofs.keyed.no_rows.Given as goal

abbrev pub invariant-loop : goal.invariant-loop
invariant-loop l = record {
  many : length l.groups.items ≡ l.counter;
  none : (p : ℕ) → get_or l.groups.items p [] ≡ [];
}
