use Rattle.std.proofs.Common.{◌≡◌, ◌||◌, ℕ, false, slice_index, slice_index_or}
use Rattle.rules_spreads.specs.Rows.{rows_in}
use Rattle.rules_spreads.specs.OperationSpans.{set_at, any_below, is_missing_at}
use Rattle.rules_spreads.proofs.missing.note_missing_in_operations.Given as goal

abbrev pub invariant-loop-number : goal.invariant-loop-number
invariant-loop-number l = (s : ℕ) →
    slice_index_or l.noted.items s false ≡ (any_below (is_missing_at (rows_in l.rows) l.span.first (set_at l.sets (slice_index l.numbers s)) s) l.number || slice_index_or l.initial.noted.items s false)
