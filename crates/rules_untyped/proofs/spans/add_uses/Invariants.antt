use Rattle.std.proofs.Common.{◌≡◌, ℕ, ◌||◌, drop}
use Rattle.std.specs.Prelude.{◌&&◌}
use Rattle.rules_spreads.specs.OperationSpans.{has, set_at}
use Rattle.rules_untyped.specs.UseRows.{is_number_among}
use Rattle.rules_untyped.proofs.spans.add_uses.Given as goal

abbrev pub invariant-loop-place : goal.invariant-loop-place
invariant-loop-place l = (n m : ℕ) →
    ((is_number_among l.numbers n (drop l.place-index l.row) && has l.reached_by m) || has (set_at l.sets.items n) m)
    ≡ ((is_number_among l.numbers n l.row && has l.reached_by m) || has (set_at l.initial.sets.items n) m)
