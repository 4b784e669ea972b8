-- Definitions of how outcomes are written into flat buffers.
use Rattle.std.specs.Prelude.{ℕ, ◌≡◌, ◌<◌, Bool, List, [], ◌∷◌, ◌++◌, Option, option_copied, map, length, unwrap_or, if◌then◌else◌, All, bytes_eq}
use Rattle.std.specs.Borrow.{Bor}
use Rattle.std.specs.Cmp.Lexicographic.{pointwise}
use Rattle.std.specs.List.{flat_map}
use Rattle.flat_orders.specs.Written.{size_of}
use Rattle.load_memory.specs.Outcomes.{OutcomeOf, known, batch_fault, rows, key_fault}
use Rattle.load_memory.specs.Rows.{RowOf}
use Rattle.flat_outcomes.specs.Said.{key_mark, batch_mark, same_mark}

-- ---- rows

-- the names of a row's columns
abbrev pub names_of : RowOf → List (List ℕ)
names_of row = map (λ pair. pair.0) row

-- the fields of a row
abbrev pub fields_of : RowOf → List (List ℕ)
fields_of row = map (λ pair. pair.1) row

-- the columns of two rows have the same names, one by one
abbrev pub have_same_names : RowOf → RowOf → Bool
have_same_names one other = pointwise bytes_eq (names_of one) (names_of other)

-- the row before, where there is one: else it is one of no columns
abbrev pub row_before : Option (Bor RowOf) → RowOf
row_before row = unwrap_or (option_copied row) []

-- the number that is written of a row's columns, after the row before it
abbrev pub width_after : RowOf → RowOf → ℕ
width_after before row = if have_same_names before row then same_mark else length row

-- the names that are written of a row after another
abbrev pub names_after : RowOf → RowOf → List (List ℕ)
names_after before row = if have_same_names before row then [] else names_of row

-- the texts that are written of a row after another
abbrev pub texts_after : RowOf → RowOf → List (List ℕ)
texts_after before row = names_after before row ++ fields_of row

-- the numbers that are written of rows, after the row before them
unfoldable pub widths_of : RowOf → List RowOf → List ℕ
widths_of before [] = []
widths_of before (row ∷ more) = width_after before row ∷ widths_of row more

-- the texts that are written of rows, after the row before them
unfoldable pub texts_of : RowOf → List RowOf → List (List ℕ)
texts_of before [] = []
texts_of before (row ∷ more) = texts_after before row ++ texts_of row more

-- the last of these rows, or the one before them
unfoldable pub last_row : RowOf → List RowOf → RowOf
last_row before [] = before
last_row before (row ∷ more) = last_row row more

-- ---- outcomes

-- the rows of an outcome
abbrev pub rows_in : OutcomeOf → List RowOf
rows_in (known (rows all)) = all
rows_in (known (key_fault t)) = []
rows_in (batch_fault t) = []

-- the fault of an outcome, if it has one
abbrev pub faults_in : OutcomeOf → List (List ℕ)
faults_in (known (rows all)) = []
faults_in (known (key_fault t)) = t ∷ []
faults_in (batch_fault t) = t ∷ []

-- the number that is written of an outcome
abbrev pub count_of : OutcomeOf → ℕ
count_of (known (rows all)) = length all
count_of (known (key_fault t)) = key_mark
count_of (batch_fault t) = batch_mark

-- the rows of all outcomes, in order
abbrev pub all_rows : List OutcomeOf → List RowOf
all_rows outcomes = flat_map rows_in outcomes

-- the faults of all outcomes, in order
abbrev pub all_faults : List OutcomeOf → List (List ℕ)
all_faults outcomes = flat_map faults_in outcomes

-- the texts that are written of the rows of all outcomes
abbrev pub row_texts : List OutcomeOf → List (List ℕ)
row_texts outcomes = texts_of [] (all_rows outcomes)

-- a row has fewer columns than the mark says
abbrev pub IsNarrow : RowOf → Type 0
IsNarrow row = length row < same_mark

-- an outcome has fewer rows than the marks say, and each is one of few columns
abbrev pub IsFew : List RowOf → Type 0
IsFew all = (length all < batch_mark) × All IsNarrow all

-- buffers are of just the size that the outcomes take: for the numbers of rows, the numbers of columns, and the ends and the bytes of
-- the texts of rows
abbrev pub AreOfSize : List OutcomeOf → List ℕ → List ℕ → List ℕ → List ℕ → Type 0
AreOfSize outcomes counts widths ends bytes = (length counts ≡ length outcomes)
    × (length widths ≡ length (all_rows outcomes))
    × (length ends ≡ length (row_texts outcomes)) × (length bytes ≡ size_of (row_texts outcomes))

-- these buffers are the outcomes, written
pub record AreWritten (outcomes : List OutcomeOf) (counts widths : List ℕ)
    (texts faults : List (List ℕ)) : Type 0 where
  pub few : All (λ o. IsFew (rows_in o)) outcomes
  pub counts_are : counts ≡ map count_of outcomes
  pub widths_are : widths ≡ widths_of [] (all_rows outcomes)
  pub texts_are : texts ≡ row_texts outcomes
  pub faults_are : faults ≡ all_faults outcomes
