-- Definitions of what operations and fragments spread (section 2.8). Both are numbered in the order of their
-- lists, from 0.
use Rattle.std.specs.Prelude.{ℕ, zero, suc, ◌+◌, ◌==◌, nat_lt, Bool, false, List, [], ◌∷◌, ◌++◌, length, filter_map, slice_get, unwrap_or, Option, Some, None, if◌then◌else◌}
use Rattle.rules_parts.specs.declared.part.Owner.{Owner}
use Rattle.rules_parts.specs.declared.part.Owner.TheVariants as owner
use Rattle.rules_parts.specs.Parts.{SpreadPart, PartsOf}

-- the fragments that each operation and each fragment spreads, in the order of the text
pub record GraphOf : Type 0 where
  pub operations : List (List ℕ)
  pub fragments : List (List ℕ)

-- the number of an operation
abbrev pub operation_number : Owner → Option ℕ
operation_number (owner.Operation i) = Some i
operation_number (owner.Fragment i) = None

-- the number of a fragment
abbrev pub fragment_number : Owner → Option ℕ
fragment_number (owner.Operation i) = None
fragment_number (owner.Fragment i) = Some i

abbrev pub is_number : ℕ → Option ℕ → Bool
is_number i None = false
is_number i (Some k) = i == k

-- the target of a spread, where it is one of this many fragments; an unknown name has none
abbrev pub known_target : ℕ → Option ℕ → Option ℕ
known_target count None = None
known_target count (Some j) = if nat_lt j count then Some j else None

-- gives what a spread gives to the one with the number i
abbrev pub target_of : ℕ → (Owner → Option ℕ) → ℕ → SpreadPart → Option ℕ
target_of count number i s =
    if is_number i (number s.owner) then known_target count s.target else None

abbrev pub targets_of : ℕ → (Owner → Option ℕ) → List SpreadPart → ℕ → List ℕ
targets_of count number spreads i = filter_map (target_of count number i) spreads

-- gives what each of `many` spreads, the first of which has the number i
abbrev pub rows_from : ℕ → (Owner → Option ℕ) → List SpreadPart → ℕ → ℕ → List (List ℕ)
rows_from count number spreads i zero = []
rows_from count number spreads i (suc many) =
    targets_of count number spreads i ∷ rows_from count number spreads (i + 1) many

abbrev pub graph_of : PartsOf → GraphOf
graph_of p =
    let count = length p.document.fragments in
    record {
      operations = rows_from count operation_number p.spreads 0 (length p.document.operations);
      fragments = rows_from count fragment_number p.spreads 0 count;
    }

abbrev pub row_at : List (List ℕ) → ℕ → List ℕ
row_at rows i = unwrap_or (slice_get rows i) []

-- gives what an operation or a fragment spreads
abbrev pub row : GraphOf → Owner → List ℕ
row g (owner.Operation i) = row_at g.operations i
row g (owner.Fragment i) = row_at g.fragments i

-- ---- how a graph is made

-- one more target in the row i
abbrev pub with_target : List (List ℕ) → ℕ → ℕ → List (List ℕ)
with_target [] i j = []
with_target (row ∷ rows) zero j = (row ++ j ∷ []) ∷ rows
with_target (row ∷ rows) (suc i) j = row ∷ with_target rows i j

abbrev pub with_target_if : List (List ℕ) → Option ℕ → Option ℕ → List (List ℕ)
with_target_if rows (Some i) (Some j) = with_target rows i j
with_target_if rows _ _ = rows

-- gives what one more spread gives to the rows
abbrev pub with_spread : ℕ → (Owner → Option ℕ) → List (List ℕ) → SpreadPart → List (List ℕ)
with_spread count number rows s = with_target_if rows (number s.owner) (known_target count s.target)
