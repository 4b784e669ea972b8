-- Rows of numbers, one for each operation and one for each fragment.
use Rattle.std.specs.Prelude.{◌==◌, Bool, false}
use Rattle.rules_parts.specs.declared.part.Owner.{Owner}
use Rattle.rules_parts.specs.declared.part.Owner.TheVariants as owner
use Rattle.rules_spreads.specs.declared.owner_lists.OwnerLists as rust
use Rattle.rules_spreads.specs.Graphs.{GraphOf}
use Rattle.rules_spreads.specs.Rows.{rows_in}

-- the rows, as those of a graph
abbrev pub owner_rows : rust.OwnerLists → GraphOf
owner_rows r =
    record { operations = rows_in r.operations.items; fragments = rows_in r.fragments.items }

-- both are one operation or one fragment
abbrev pub is_same_owner : Owner → Owner → Bool
is_same_owner (owner.Operation i) (owner.Operation k) = i == k
is_same_owner (owner.Operation i) (owner.Fragment k) = false
is_same_owner (owner.Fragment i) (owner.Operation k) = false
is_same_owner (owner.Fragment i) (owner.Fragment k) = i == k
