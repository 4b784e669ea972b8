use Rattle.std.proofs.Common.{◌≡◌, ◌+◌, ℕ, suc, true, false, cond, length}
use Rattle.std.specs.Prelude.{◌&&◌, nat_lt}
use Rattle.rules_parts.specs.declared.part.Owner.TheVariants as owner
use Rattle.rules_spreads.specs.Reach.{spreads, reaches}
use Rattle.rules_spreads.specs.OperationSpans.{has, set_at, room, AreFollowed}
use Rattle.rules_spreads.proofs.reaching.reachers.Given as goal

abbrev pub invariant-loop-has_grown : goal.invariant-loop-has_grown
invariant-loop-has_grown l = record {
  len : length l.sets.items ≡ length l.graph.fragments;
  reached : (j i : ℕ) → has (set_at l.sets.items j) i ≡ true → (nat_lt i l.count && reaches l.graph (owner.Operation (l.first + i)) j) ≡ true;
  begun : (j i : ℕ) → (nat_lt i l.count && spreads l.graph (owner.Operation (l.first + i)) j) ≡ true → has (set_at l.sets.items j) i ≡ true;
  followed : l.has_grown ≡ false → AreFollowed l.edges (length l.edges) l.sets.items;
}

abbrev pub decreases-loop-has_grown : goal.decreases-loop-has_grown
decreases-loop-has_grown l = cond l.has_grown (suc (room l.sets.items)) 0
