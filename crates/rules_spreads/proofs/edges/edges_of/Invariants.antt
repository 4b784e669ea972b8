use Rattle.std.proofs.Common.{◌≡◌, ◌<◌, ℕ, true}
use Rattle.rules_spreads.specs.Graphs.{row_at}
use Rattle.rules_spreads.specs.Reach.{is_among}
use Rattle.rules_spreads.specs.Rows.{rows_in}
use Rattle.rules_spreads.specs.OperationSpans.{has_edge}
use Rattle.rules_spreads.proofs.ReacherLaws.{IsEdgesOf}
use Rattle.rules_spreads.proofs.edges.edges_of.Given as goal

abbrev pub invariant-loop-fragment : goal.invariant-loop-fragment
invariant-loop-fragment l = IsEdgesOf l.rows l.edges.items l.taken.items

abbrev pub invariant-loop-fragment-2 : goal.invariant-loop-fragment-2
invariant-loop-fragment-2 l = record {
  so_far : IsEdgesOf l.rows l.edges.items l.taken.items;
  before : (f j : ℕ) → f < l.fragment → is_among j (row_at (rows_in l.rows) f) ≡ true → has_edge l.edges.items f j ≡ true;
}
