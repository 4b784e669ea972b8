use Rattle.std.proofs.Common.{◌≡◌, ℕ, false, length}
use Rattle.merging_pairs.specs.Table.{entry}
use Rattle.merging_fields.proofs.grounds.blank_rows.Given as goal

abbrev pub invariant-loop : goal.invariant-loop
invariant-loop l = (length l.rows.items ≡ l.counter) × ((b a : ℕ) → entry l.rows.items b a ≡ false)
