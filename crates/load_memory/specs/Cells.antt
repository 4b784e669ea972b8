-- Definitions of how a sheet keeps its cells: one text, the place where each cell ends, and the
-- number of cells of a row.
use Rattle.std.specs.Prelude.{◌≡◌, ◌≤◌, ◌<◌, ◌^◌, ℕ, zero, suc, List, [], ◌∷◌, length, take, drop, slice_range, IsUtf8, ⊤}
use Rattle.load_memory.specs.Rows.{SheetOf, DraftOf}

-- the texts that end at these places, after a start
unfoldable pub cut : List ℕ → ℕ → List ℕ → List (List ℕ)
cut text start [] = []
cut text start (end ∷ ends) = slice_range text start end ∷ cut text end ends

-- gives where the text with this index starts
unfoldable pub start_at : ℕ → List ℕ → ℕ → ℕ
start_at start ends zero = start
start_at start [] (suc i) = start
start_at start (end ∷ ends) (suc i) = start_at end ends i

-- the places rise to the end of the text, which is UTF-8 from each of them on
unfoldable pub IsCut : List ℕ → ℕ → List ℕ → Type 0
IsCut text start [] = start ≡ length text
IsCut text start (end ∷ ends) = (start ≤ end) × IsUtf8 (drop end text) × IsCut text end ends

-- `n` pieces of one width
unfoldable pub pieces : ℕ → ℕ → List (List ℕ) → List (List (List ℕ))
pieces width zero cells = []
pieces width (suc n) cells = take width cells ∷ pieces width n (drop width cells)

-- gives what follows those pieces
unfoldable pub beyond : ℕ → ℕ → List (List ℕ) → List (List ℕ)
beyond width zero cells = cells
beyond width (suc n) cells = beyond width n (drop width cells)

-- there are enough cells for those pieces
unfoldable pub HasPieces : ℕ → ℕ → List (List ℕ) → Type 0
HasPieces width zero cells = ⊤
HasPieces width (suc n) cells = (width ≤ length cells) × HasPieces width n (drop width cells)

-- the header comes first, then the rows, then the row that was begun
abbrev pub draft_of : ℕ → ℕ → List (List ℕ) → DraftOf
draft_of width rows cells = record {
  names = take width cells;
  rows = pieces width rows (drop width cells);
  begun = beyond width rows (drop width cells);
}

abbrev pub sheet_of : ℕ → ℕ → List (List ℕ) → SheetOf
sheet_of width rows cells = record {
  names = take width cells;
  rows = pieces width rows (drop width cells);
}

-- the cells of `width` columns and `rows` rows are there, and the rows can be counted in 32 bits
pub record HasSheet (width rows : ℕ) (cells : List (List ℕ)) : Type 0 where
  pub header : width ≤ length cells
  pub whole : HasPieces width rows (drop width cells)
  pub count : rows < 2 ^ 32
