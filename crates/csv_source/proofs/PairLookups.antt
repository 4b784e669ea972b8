-- Look-ups of a pair by the links of an index.
use Rattle.std.proofs.Common.{◌≡◌, ◌<◌, ◌≤◌, ◌+◌, ℕ, List, [], ◌∷◌, ◌++◌, length, get_or, Bool, true, arith}
use Rattle.std.specs.Prelude.{filter}
use Rattle.load_memory.specs.Keys.{fold_text}
use Rattle.load_memory.specs.Rows.{RowOf, SheetOf, row_at}
use Rattle.csv_source.specs.Chains.{IsNext, IsPairIndex, IsBesidePair, IsNextOfPair}
use Rattle.csv_source.specs.Hashes.{pair_bucket_of, pair_in_bucket}
use Rattle.csv_source.specs.Tables.{rows_of, has_pair}
use Rattle.csv_source.specs.declared.pair_index.Pairing.{Pairing}
use Rattle.csv_source.proofs.Walks.{IsWalk, walk-start, walk-step, walk-following, walk-all, in_bucket-has_pair}
use Rattle.csv_source.proofs.Lookups.{row-there}

module _ (s : SheetOf) (by : Pairing) (first next : List ℕ) (index : IsPairIndex s by.column by.second by.mode first next) (one two : List ℕ) where
  abbrev tests : ℕ → ℕ → RowOf → Bool
  tests = pair_in_bucket by.mode (get_or s.names by.column []) (get_or s.names by.second [])

  abbrev has : RowOf → Bool
  has = has_pair by.mode (get_or s.names by.column []) (get_or s.names by.second []) (fold_text by.mode one) (fold_text by.mode two)

  abbrev bucket : ℕ
  bucket = pair_bucket_of by.mode (length first) (fold_text by.mode one) (fold_text by.mode two)

  abbrev pub PairWalk : ℕ → List RowOf → Type 0
  PairWalk place found = IsWalk has (rows_of s) place found

  wider : (x : RowOf) → has x ≡ true → tests (length first) bucket x ≡ true
  wider x is = in_bucket-has_pair by.mode (get_or s.names by.column []) (get_or s.names by.second []) (fold_text by.mode one) (fold_text by.mode two) (length first) x is

  -- from the head of the pair's bucket
  pub pair-start : (at head to : ℕ) → at < length first → at ≡ bucket → head ≡ get_or first at 0 → IsNextOfPair s by one two head to → PairWalk to []
  pair-start at head to lt here is far =
      walk-start tests (rows_of s) first next index.linked has bucket wider to (rw here at lt) (rw (is, here) at far)

  pub pair-all : (place : ℕ) (found : List RowOf) → length next ≤ place → PairWalk place found → found ≡ filter has (rows_of s)
  pair-all place found past walk = walk-all _ (rows_of s) place found (omega (arith, past, index.linked.links)) walk

  module _ (place : ℕ) (found : List RowOf) (there : place < length next) (walk : PairWalk place found) where
    within : place < length (rows_of s)
    within = omega (arith, there, index.linked.links)

    following : IsNext (tests (length first) bucket) (rows_of s) (place + 1) (get_or next place 0)
    following = walk-following tests (rows_of s) first next index.linked has bucket wider place within found walk

    pub pair-next : IsBesidePair s by (length first) one two (get_or next place 0)
    pair-next = following.passes

    pub pair-step : (to : ℕ) → IsNextOfPair s by one two (get_or next place 0) to → PairWalk to (found ++ row_at s place ∷ [])
    pair-step to far =
        rw (← row-there s place within)
        (walk-step tests (rows_of s) first next index.linked has bucket wider place within found to walk far)

    pub pair-later : (to : ℕ) → IsNextOfPair s by one two (get_or next place 0) to → place < to
    pair-later to far =
        let near = following.later in
        let on = far.later in
        omega arith

    pub pair-within : place < length (rows_of s)
    pair-within = within
