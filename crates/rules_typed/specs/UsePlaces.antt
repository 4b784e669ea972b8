-- Definitions of where the uses of variables stand, by their operation or fragment.
use Rattle.std.specs.Prelude.{◌≡◌, ◌<◌, ℕ, List, length, slice_index_or}
use Rattle.rules_parts.specs.declared.part.Owner.{Owner}
use Rattle.rules_parts.specs.declared.part.VariableUse as rust
use Rattle.rules_spreads.specs.declared.owner_lists.OwnerLists.{OwnerLists}
use Rattle.rules_spreads.specs.Graphs.{row}
use Rattle.rules_spreads.specs.Reach.{is_among}
use Rattle.rules_spreads.specs.OwnerLists.{owner_rows, is_same_owner}

-- The place of each use stands in the row of what the use stands in, and in no other.
abbrev pub ArePlaces : OwnerLists → List rust.VariableUse → Type 0
ArePlaces p uses = (o : Owner) (k : ℕ) (d : rust.VariableUse) → k < length uses
    → is_among k (row (owner_rows p) o) ≡ is_same_owner o (slice_index_or uses k d).owner
