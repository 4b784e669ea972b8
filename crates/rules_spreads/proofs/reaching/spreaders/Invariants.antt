use Rattle.std.proofs.Common.{◌≡◌, ◌<◌, ◌+◌, ℕ, true, length}
use Rattle.std.specs.Prelude.{◌&&◌, nat_lt}
use Rattle.rules_parts.specs.declared.part.Owner.TheVariants as owner
use Rattle.rules_spreads.specs.Reach.{spreads, are_known}
use Rattle.rules_spreads.specs.OperationSpans.{has, set_at}
use Rattle.rules_spreads.proofs.reaching.spreaders.Given as goal

abbrev pub invariant-loop-number : goal.invariant-loop-number
invariant-loop-number l = record {
  len : length l.sets.items ≡ length l.graph.fragments;
  known : 0 < l.number → are_known l.graph ≡ true;
  each : (j i : ℕ) → has (set_at l.sets.items j) i ≡ (nat_lt i l.number && spreads l.graph (owner.Operation (l.first + i)) j);
}
