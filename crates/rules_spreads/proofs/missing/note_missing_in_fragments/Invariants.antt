use Rattle.std.proofs.Common.{◌≡◌, ◌||◌, ℕ, false, slice_index, slice_index_or}
use Rattle.rules_spreads.specs.Rows.{rows_in}
use Rattle.rules_spreads.specs.OperationSpans.{set_at, any_below, is_missing_in}
use Rattle.rules_spreads.proofs.missing.note_missing_in_fragments.Given as goal

abbrev pub invariant-loop-fragment : goal.invariant-loop-fragment
invariant-loop-fragment l = (s : ℕ) →
    slice_index_or l.noted.items s false ≡ (any_below (is_missing_in (rows_in l.rows) l.reached (set_at l.sets (slice_index l.numbers s)) s) l.fragment || slice_index_or l.initial.noted.items s false)
