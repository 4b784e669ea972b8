use Rattle.std.proofs.Common.{◌≡◌, ℕ, ◌||◌}
use Rattle.rules_spreads.specs.OperationSpans.{has, set_at, any_below}
use Rattle.rules_spreads.specs.Rows.{rows_in}
use Rattle.rules_untyped.specs.UseRows.{is_used_at}
use Rattle.rules_untyped.proofs.spans.add_uses_in_operations.Given as goal

abbrev pub invariant-loop-number : goal.invariant-loop-number
invariant-loop-number l = (n m : ℕ) → has (set_at l.sets.items n) m ≡ (any_below (is_used_at l.numbers n (rows_in l.rows) l.span.first m) l.number || has (set_at l.initial.sets.items n) m)
