use Rattle.std.proofs.Common.{◌≡◌, ℕ, ◌||◌}
use Rattle.rules_spreads.specs.OperationSpans.{has, set_at, any_below}
use Rattle.rules_spreads.specs.Rows.{rows_in}
use Rattle.rules_untyped.specs.UseRows.{is_used_in}
use Rattle.rules_untyped.proofs.spans.add_uses_in_fragments.Given as goal

abbrev pub invariant-loop-fragment : goal.invariant-loop-fragment
invariant-loop-fragment l = (n m : ℕ) → has (set_at l.sets.items n) m ≡ (any_below (is_used_in l.numbers n (rows_in l.rows) l.reached m) l.fragment || has (set_at l.initial.sets.items n) m)
