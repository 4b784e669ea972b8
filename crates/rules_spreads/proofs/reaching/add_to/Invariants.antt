use Rattle.std.proofs.Common.{◌≡◌, ℕ, ◌||◌, eqb, length, drop}
use Rattle.std.specs.Prelude.{◌&&◌}
use Rattle.rules_spreads.specs.Reach.{is_among}
use Rattle.rules_spreads.specs.OperationSpans.{has, set_at}
use Rattle.rules_spreads.proofs.reaching.add_to.Given as goal

abbrev pub invariant-loop-fragment : goal.invariant-loop-fragment
invariant-loop-fragment l = record {
  len : length l.sets.items ≡ length l.initial.sets.items;
  each : (j i : ℕ) → ((eqb i l.number && is_among j (drop l.fragment-index l.fragments)) || has (set_at l.sets.items j) i) ≡ ((eqb i l.number && is_among j l.fragments) || has (set_at l.initial.sets.items j) i);
}
