-- The index of a column, or of two: for each bucket its first row, and for each row the next one of its bucket.
use Rattle.std.specs.Prelude.{◌≡◌, ◌≤◌, ◌<◌, ◌+◌, ℕ, Bool, true, false, List, [], Some, length, get_or, position, bytes_eq}
use Rattle.load_memory.specs.Rows.{RowOf, SheetOf, IsRectangular}
use Rattle.load_memory.specs.declared.key.KeyMode.{KeyMode}
use Rattle.load_memory.specs.Keys.{fold_text}
use Rattle.csv_source.specs.Hashes.{in_bucket, bucket_of, pair_in_bucket, pair_bucket_of}
use Rattle.csv_source.specs.Tables.{rows_of, has_text, has_pair}
use Rattle.csv_source.specs.declared.pair_index.Pairing.{Pairing}

-- the first place from a place on at which a row passes; past the rows where none does
pub record IsNext (test : RowOf → Bool) (rows : List RowOf) (from to : ℕ) : Type 0 where
  pub later : from ≤ to
  pub between : (k : ℕ) → from ≤ k → k < to → k < length rows → test (get_or rows k []) ≡ false
  pub passes : to < length rows → test (get_or rows to []) ≡ true

-- the links of the rows from a place on, by a test that tells, for a number of buckets, whether a row is of one of them
pub record IsLinked (is_in : ℕ → ℕ → RowOf → Bool) (rows : List RowOf) (first next : List ℕ)
    (from : ℕ) : Type 0 where
  pub links : length next ≡ length rows
  pub heads : (bucket : ℕ) → bucket < length first
      → IsNext (is_in (length first) bucket) rows from (get_or first bucket 0)
  pub follows : (place bucket : ℕ) → from ≤ place → place < length rows
      → is_in (length first) bucket (get_or rows place []) ≡ true
      → IsNext (is_in (length first) bucket) rows (place + 1) (get_or next place 0)

-- a column of a sheet, by its place and its name, of equal names the first
abbrev pub IsColumn : SheetOf → ℕ → Type 0
IsColumn s column = Some column ≡ position (λ n. bytes_eq n (get_or s.names column [])) s.names

-- a sheet whose rows can be linked by a column
pub record IsLinkable (s : SheetOf) (column : ℕ) : Type 0 where
  pub rectangular : IsRectangular s
  pub named : IsColumn s column

-- the links of a sheet's rows by a column
abbrev pub IsLinkedIn : SheetOf → ℕ → KeyMode → List ℕ → List ℕ → ℕ → Type 0
IsLinkedIn s column mode first next from =
    IsLinked (in_bucket mode (get_or s.names column [])) (rows_of s) first next from

-- the index of a column of a sheet
pub record IsIndex (s : SheetOf) (column : ℕ) (mode : KeyMode) (first next : List ℕ) : Type 0 where
  pub rectangular : IsRectangular s
  pub named : IsColumn s column
  pub buckets : 0 < length first
  pub linked : IsLinkedIn s column mode first next 0

-- a place past the rows, or that of a row in the bucket of a text
abbrev pub IsBeside : SheetOf → ℕ → KeyMode → ℕ → List ℕ → ℕ → Type 0
IsBeside s column mode buckets text place =
    let bucket = bucket_of mode buckets (fold_text mode text) in
    place < length (rows_of s)
    → in_bucket mode (get_or s.names column []) buckets bucket (get_or (rows_of s) place []) ≡ true

-- the first place from a place on of a row that has a text
abbrev pub IsNextOfText : SheetOf → ℕ → KeyMode → List ℕ → ℕ → ℕ → Type 0
IsNextOfText s column mode text from to =
    IsNext (has_text mode (get_or s.names column []) (fold_text mode text)) (rows_of s) from to

abbrev pub AreColumns : SheetOf → ℕ → ℕ → Type 0
AreColumns s column second = IsColumn s column × IsColumn s second

-- a sheet whose rows can be linked by two columns
pub record IsPairLinkable (s : SheetOf) (column second : ℕ) : Type 0 where
  pub rectangular : IsRectangular s
  pub named : AreColumns s column second

-- the links of a sheet's rows by two columns
abbrev pub IsPairLinkedIn : SheetOf → ℕ → ℕ → KeyMode → List ℕ → List ℕ → ℕ → Type 0
IsPairLinkedIn s column second mode first next from =
    IsLinked (pair_in_bucket mode (get_or s.names column []) (get_or s.names second []))
    (rows_of s) first next from

-- the index of two columns of a sheet
pub record IsPairIndex (s : SheetOf) (column second : ℕ) (mode : KeyMode)
    (first next : List ℕ) : Type 0 where
  pub rectangular : IsRectangular s
  pub named : AreColumns s column second
  pub buckets : 0 < length first
  pub linked : IsPairLinkedIn s column second mode first next 0

-- a place past the rows, or that of a row in the bucket of two texts
abbrev pub IsBesidePair : SheetOf → Pairing → ℕ → List ℕ → List ℕ → ℕ → Type 0
IsBesidePair s by buckets one two place =
    let name = get_or s.names by.column [] in
    let other = get_or s.names by.second [] in
    let bucket =
    pair_bucket_of by.mode buckets (fold_text by.mode one) (fold_text by.mode two) in
    place < length (rows_of s)
    → pair_in_bucket by.mode name other buckets bucket (get_or (rows_of s) place []) ≡ true

-- the first place from a place on of a row that has two texts
abbrev pub IsNextOfPair : SheetOf → Pairing → List ℕ → List ℕ → ℕ → ℕ → Type 0
IsNextOfPair s by one two from to =
    IsNext (has_pair by.mode (get_or s.names by.column []) (get_or s.names by.second [])
    (fold_text by.mode one) (fold_text by.mode two)) (rows_of s) from to
