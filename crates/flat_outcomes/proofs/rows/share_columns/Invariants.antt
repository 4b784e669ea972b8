use Rattle.std.proofs.Common.{◌≡◌, ◌<◌, ℕ, true}
use Rattle.std.specs.Prelude.{bytes_eq}
use Rattle.flat_outcomes.proofs.Columns.{name_at}
use Rattle.flat_outcomes.proofs.rows.share_columns.Given as goal

abbrev pub invariant-loop-column : goal.invariant-loop-column
invariant-loop-column l = (k : ℕ) → k < l.column → bytes_eq (name_at l.one k) (name_at l.other k) ≡ true
