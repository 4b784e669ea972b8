use Rattle.std.proofs.Common.{◌≡◌, ◌||◌, ℕ, false, not, drop, slice_index, slice_index_or}
use Rattle.std.specs.Prelude.{◌&&◌}
use Rattle.rules_spreads.specs.Reach.{is_among}
use Rattle.rules_spreads.specs.OperationSpans.{is_within, set_at}
use Rattle.rules_spreads.proofs.missing.note_row.Given as goal

abbrev pub invariant-loop-place : goal.invariant-loop-place
invariant-loop-place l = (s : ℕ) →
    ((is_among s (drop l.place-index l.row) && not (is_within l.reached_by (set_at l.sets (slice_index l.numbers s)))) || slice_index_or l.noted.items s false)
    ≡ ((is_among s l.row && not (is_within l.reached_by (set_at l.sets (slice_index l.numbers s)))) || slice_index_or l.initial.noted.items s false)
