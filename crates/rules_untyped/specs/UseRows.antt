-- Uses in rows, by the operation or fragment that they stand in.
use Rattle.std.specs.Prelude.{◌≡◌, ℕ, ◌+◌, ◌<◌, ◌==◌, ◌||◌, ◌&&◌, Bool, true, false, List, length, [], Option, None, MatchOption, slice_index, slice_index_or, slice_get, bytes_eq}
use Rattle.std.specs.List.{list_any}
use Rattle.std.specs.HashMap.{get_by}
use Rattle.std.specs.Borrow.{Bor}
use Rattle.std.specs.Option.{option_map_or}
use Rattle.gq_parser.specs.Tree.{Operation}
use Rattle.rules_parts.specs.declared.part.Owner.{Owner}
use Rattle.rules_parts.specs.declared.part.Owner.TheVariants as owner
use Rattle.rules_parts.specs.Parts.{VariableUse}
use Rattle.rules_spreads.specs.declared.operation_set.OperationSet.{OperationSet}
use Rattle.rules_spreads.specs.OperationSpans.{has, set_at, any_below}
use Rattle.rules_spreads.specs.Reach.{is_among}
use Rattle.rules_untyped.specs.declared.variable_use_index.VariableUseIndex as rust-table
use Rattle.rules_untyped.specs.declared.variable_use_index.Last as rust-last
use Rattle.rules_spreads.specs.declared.owner_lists.OwnerLists.{OwnerLists}
use Rattle.rules_spreads.specs.OwnerLists.{owner_rows}
use Rattle.rules_spreads.specs.Graphs.{row_at, GraphOf, row}
use Rattle.rules_untyped.specs.VariableUseIndex.{number_in, numbers_by, is_numbered}

-- gives what is read behind the last use
abbrev pub no_use : VariableUse
no_use = record {
  owner = owner.Operation 0;
  place = record { line = 1; column = 1 };
  name = [];
  location = None;
}

abbrev pub use_at : List VariableUse → ℕ → VariableUse
use_at uses k = slice_index_or uses k no_use

-- the use k stands in this owner's row
abbrev pub IsIn : GraphOf → Owner → ℕ → Type 0
IsIn rows o k = is_among k (row rows o) ≡ true

-- the use k has this owner, and its name this number
pub record Stands (uses : List VariableUse) (numbers : List ℕ) (o : Owner)
    (number k : ℕ) : Type 0 where
  pub stands : (use_at uses k).owner ≡ o
  pub numbered : slice_index numbers k ≡ number

-- the rows have uses before k alone, each in its own owner's row, and the last ones of names are among them
pub record IsUpTo (uses : List VariableUse) (numbers : List ℕ) (rows : GraphOf)
    (last : List (Option rust-last.Last)) (k : ℕ) : Type 0 where
  pub sound : (s : ℕ) (o : Owner) → IsIn rows o s → (s < k) × ((use_at uses s).owner ≡ o)
  pub lasts : (n : ℕ) → MatchOption (slice_index_or last n None) (Unit {0})
      (λ (l : rust-last.Last). IsIn rows l.owner l.place × (slice_index numbers l.place ≡ n))

-- the table goes one use further, for which s stands
pub record IsNext (uses : List VariableUse) (numbers : List ℕ) (old new : GraphOf)
    (lasts : List (Option rust-last.Last)) (o : Owner) (number k s : ℕ) : Type 0 where
  pub further : IsUpTo uses numbers new lasts (k + 1)
  pub stands : IsIn new o s
  pub numbered : slice_index numbers s ≡ number
  pub kept : (t : ℕ) (q : Owner) → IsIn old q t → IsIn new q t

-- rows that have the uses before the use k have this one too now, by the use s
abbrev pub GoesOn : OwnerLists → List (Option rust-last.Last) → OwnerLists
    → List (Option rust-last.Last) → Owner → ℕ → ℕ → ℕ → Type 0
GoesOn old lasts new lasts' o number k s = (uses : List VariableUse) (numbers : List ℕ)
    → Stands uses numbers o number k
    → IsUpTo uses numbers (owner_rows old) lasts k
    → IsNext uses numbers (owner_rows old) (owner_rows new) lasts' o number k s

-- says what the table of uses holds
pub record IsUseTable (uses : List VariableUse) (table : rust-table.VariableUseIndex) : Type 0 where
  pub names : (q : List ℕ)
      → get_by (λ (k : Bor (List ℕ)). bytes_eq q k.now) table.names ≡ number_in uses q
  pub numbers : table.numbers.items ≡ numbers_by (number_in uses) uses
  pub sound : (s : ℕ) (o : Owner) → IsIn (owner_rows table.rows) o s
      → (s < length uses) × ((use_at uses s).owner ≡ o)
  pub stood : (k : ℕ) → k < length uses
      → IsIn (owner_rows table.rows) (use_at uses k).owner (slice_index table.stand_ins.items k)
  pub alike : (k : ℕ) → k < length uses
      → slice_index table.numbers.items (slice_index table.stand_ins.items k)
      ≡ slice_index table.numbers.items k

-- a use in the row has a name of this number
abbrev pub is_number_among : List ℕ → ℕ → List ℕ → Bool
is_number_among numbers n row = list_any (λ s. n == slice_index numbers s) row

-- a use in the row of the fragment j has a name of this number, and the operation of the number m in a span reaches the fragment
abbrev pub is_used_in : List ℕ → ℕ → List (List ℕ) → List OperationSet → ℕ → ℕ → Bool
is_used_in numbers n rows reached m j =
    is_number_among numbers n (row_at rows j) && has (set_at reached j) m

-- a use in the row of the operation of the number i in a span has a name of this number, and that operation is the one of the number m
abbrev pub is_used_at : List ℕ → ℕ → List (List ℕ) → ℕ → ℕ → ℕ → Bool
is_used_at numbers n rows first m i = is_number_among numbers n (row_at rows (first + i)) && m == i

-- a use of a name of this number stands in a fragment that the operation of the number m in a span reaches, or in itself
abbrev pub has_number : rust-table.VariableUseIndex → ℕ → ℕ → List OperationSet → ℕ → ℕ → Bool
has_number table first count reached m n =
    any_below (is_used_in table.numbers.items n (owner_rows table.rows).fragments reached m)
    (length reached)
    || any_below (is_used_at table.numbers.items n (owner_rows table.rows).operations first m) count

-- the operation of this number has a variable whose name has the number n
abbrev pub defines_at : (List ℕ → Option ℕ) → ℕ → List Operation → ℕ → Bool
defines_at number n operations k = option_map_or
    (λ (o : Operation). list_any (is_numbered number n) o.variables) (slice_get operations k) false
