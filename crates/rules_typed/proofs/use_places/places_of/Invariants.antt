use Rattle.std.proofs.Common.{◌≡◌, ℕ, ◌<◌, ◌≤◌, false, get_or}
use Rattle.rules_parts.specs.declared.part.Owner.{Owner}
use Rattle.rules_parts.specs.declared.part.VariableUse.{VariableUse}
use Rattle.rules_spreads.specs.Reach.{is_among}
use Rattle.rules_spreads.specs.Graphs.{row}
use Rattle.rules_spreads.specs.OwnerLists.{owner_rows, is_same_owner}
use Rattle.rules_typed.proofs.use_places.places_of.Given as goal

abbrev pub invariant-loop-i : goal.invariant-loop-i
invariant-loop-i l = record {
  within : (o : Owner) (k : ℕ) (d : VariableUse) → k < l.i → is_among k (row (owner_rows l.places) o) ≡ is_same_owner o (get_or l.uses k d).owner;
  beyond : (o : Owner) (k : ℕ) → l.i ≤ k → is_among k (row (owner_rows l.places) o) ≡ false;
}
