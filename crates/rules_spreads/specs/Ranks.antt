-- Numbers of fragments that show which of them are on no cycle.
use Rattle.std.specs.Prelude.{◌≡◌, ℕ, Bool, true, nat_lt, nat_le, List, slice_index_or}
use Rattle.std.specs.List.{list_all}
use Rattle.rules_parts.specs.declared.part.Owner.TheVariants as owner
use Rattle.rules_spreads.specs.Graphs.{GraphOf, row}

abbrev pub rank_of : List ℕ → ℕ → ℕ
rank_of ranks x = slice_index_or ranks x 0

-- the ranks of these are at most this
abbrev pub are_at_most : List ℕ → ℕ → List ℕ → Bool
are_at_most ranks rank ys = list_all (λ y. nat_le (rank_of ranks y) rank) ys

-- the ranks of these are below this
abbrev pub are_under : List ℕ → ℕ → List ℕ → Bool
are_under ranks rank ys = list_all (λ y. nat_lt (rank_of ranks y) rank) ys

-- says what a fragment spreads has at most its rank
abbrev pub IsOrdered : List ℕ → GraphOf → Type 0
IsOrdered ranks g = (x : ℕ) → are_at_most ranks (rank_of ranks x) (row g (owner.Fragment x)) ≡ true
