use Rattle.std.proofs.Common.{◌≡◌, ◌+◌, ◌-◌, ℕ, vec_len}
use Rattle.rules_spreads.specs.Graphs.{row_at}
use Rattle.rules_spreads.specs.Rows.{rows_in}
use Rattle.rules_spreads.proofs.owner_lists.add_to_row.Given as goal

abbrev pub invariant-loop-alloc : goal.invariant-loop-alloc
invariant-loop-alloc l = (i : ℕ) → row_at (rows_in l.rows.items) i ≡ row_at (rows_in l.initial.rows.items) i

abbrev pub decreases-loop-alloc : goal.decreases-loop-alloc
decreases-loop-alloc l = l.row + 1 - vec_len l.rows
