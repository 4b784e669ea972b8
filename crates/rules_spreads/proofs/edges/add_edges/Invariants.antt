use Rattle.std.proofs.Common.{◌≡◌, ℕ, ◌||◌, eqb, drop}
use Rattle.std.specs.Prelude.{◌&&◌}
use Rattle.rules_spreads.specs.Reach.{is_among}
use Rattle.rules_spreads.specs.OperationSpans.{has_edge}
use Rattle.rules_spreads.proofs.edges.add_edges.Given as goal

abbrev pub invariant-loop-to : goal.invariant-loop-to
invariant-loop-to l = (f j : ℕ) → (has_edge l.edges.items f j || (eqb l.from f && is_among j (drop l.to-index l.row))) ≡ (has_edge l.initial.edges.items f j || (eqb l.from f && is_among j l.row))
