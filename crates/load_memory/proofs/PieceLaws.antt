-- Pieces of one width.
use Rattle.std.proofs.Common.{◌≡◌, ◌≤◌, ◌<◌, ◌+◌, ◌*◌, ◌^◌, ℕ, zero, suc, get_or, List, [], ◌∷◌, ◌++◌, take, drop, length, refl, sym, ap, ◌∙◌, arith, length-append, length-drop}
use Rattle.std.proofs.lemmas.List.{drop-append-le, take-append-le, length-take-le, get_or-take, get_or-drop, drop_all, take_all, length_push}
use Rattle.std.proofs.lemmas.List.Elements.{All-nil, All-cons}
use Rattle.std.specs.Prelude.{All}
use Rattle.load_memory.specs.Cells.{pieces, beyond, HasPieces, HasSheet, draft_of}

module _ (width : ℕ) where
  pub length-pieces : (n : ℕ) (cells : List (List ℕ)) → length (pieces width n cells) ≡ n
  unfolding pieces
  length-pieces zero cells = refl
  length-pieces (suc n) cells = ap suc (length-pieces n (drop width cells))

  -- more cells after them
  pub pieces-append : (n : ℕ) (cells more : List (List ℕ)) → HasPieces width n cells → pieces width n (cells ++ more) ≡ pieces width n cells
  unfolding pieces HasPieces
  pieces-append zero cells more h = refl
  pieces-append (suc n) cells more h = rw (take-append-le width cells more h.0, drop-append-le width cells more h.0, pieces-append n (drop width cells) more h.1) refl

  pub beyond-append : (n : ℕ) (cells more : List (List ℕ)) → HasPieces width n cells → beyond width n (cells ++ more) ≡ beyond width n cells ++ more
  unfolding beyond HasPieces
  beyond-append zero cells more h = refl
  beyond-append (suc n) cells more h = rw (drop-append-le width cells more h.0) (beyond-append n (drop width cells) more h.1)

  pub HasPieces-append : (n : ℕ) (cells more : List (List ℕ)) → HasPieces width n cells → HasPieces width n (cells ++ more)
  unfolding HasPieces
  HasPieces-append zero cells more h = tt
  HasPieces-append (suc n) cells more h =
      let size = length-append cells more in
      let low = h.0 in
      (omega arith, rw (drop-append-le width cells more h.0) (HasPieces-append n (drop width cells) more h.1))

  -- one more piece
  pub pieces-more : (n : ℕ) (cells : List (List ℕ)) → pieces width (suc n) cells ≡ pieces width n cells ++ take width (beyond width n cells) ∷ []
  unfolding pieces beyond
  pieces-more zero cells = refl
  pieces-more (suc n) cells = ap (λ rest. take width cells ∷ rest) (pieces-more n (drop width cells))

  pub beyond-more : (n : ℕ) (cells : List (List ℕ)) → beyond width (suc n) cells ≡ drop width (beyond width n cells)
  unfolding beyond
  beyond-more zero cells = refl
  beyond-more (suc n) cells = beyond-more n (drop width cells)

  pub HasPieces-more : (n : ℕ) (cells : List (List ℕ)) → HasPieces width n cells → width ≤ length (beyond width n cells) → HasPieces width (suc n) cells
  unfolding HasPieces beyond
  HasPieces-more zero cells h low = (low, tt)
  HasPieces-more (suc n) cells h low = (h.0, HasPieces-more n (drop width cells) h.1 low)

  -- each piece has the width
  pub wide : (n : ℕ) (cells : List (List ℕ)) → HasPieces width n cells → All (λ r. length r ≡ width) (pieces width n cells)
  unfolding pieces HasPieces
  wide zero cells h = All-nil (λ r. length r ≡ width)
  wide (suc n) cells h = All-cons (λ r. length r ≡ width) (take width cells) _ (length-take-le width cells h.0) (wide n (drop width cells) h.1)

  -- a cell by its piece and its place in it
  pub cell-at : (n : ℕ) (cells : List (List ℕ)) (i j : ℕ) → HasPieces width n cells → i < n → j < width
      → (get_or (get_or (pieces width n cells) i []) j [] ≡ get_or cells (i * width + j) []) × (i * width + j < length cells)
  unfolding pieces HasPieces
  cell-at zero cells i j h lt in_row = absurd (omega arith)
  cell-at (suc n) cells zero j h lt in_row =
      let low = h.0 in
      let none : zero * width + j ≡ j = omega arith in
      rw none (get_or-take width cells j [] in_row, omega arith)
  cell-at (suc n) cells (suc i) j h lt in_row =
      let low = h.0 in
      let rest = cell-at n (drop width cells) i j h.1 (omega arith) in_row in
      let size = length-drop width cells in
      let bound = rest.1 in
      let at : suc i * width + j ≡ width + (i * width + j) = omega arith in
      rw at (rest.0 ∙ get_or-drop width cells (i * width + j) [], omega arith)

-- a sheet that is being filled, with one field more
pub HasSheet-field : (width n : ℕ) (cells : List (List ℕ)) (x : List ℕ) → HasSheet width n cells → HasSheet width n (cells ++ x ∷ [])
HasSheet-field width n cells x h =
    let low = h.header in
    let size = length_push cells x in
    record {
      header = omega arith;
      whole = rw (drop-append-le width cells (x ∷ []) low) (HasPieces-append width n (drop width cells) (x ∷ []) h.whole);
      count = h.count;
    }

pub draft_of-field : (width n : ℕ) (cells : List (List ℕ)) (x : List ℕ) → HasSheet width n cells
    → draft_of width n (cells ++ x ∷ []) ≡ record (draft_of width n cells) { begun = beyond width n (drop width cells) ++ x ∷ [] }
draft_of-field width n cells x h =
    let low = h.header in
    rw (take-append-le width cells (x ∷ []) low, drop-append-le width cells (x ∷ []) low, pieces-append width n (drop width cells) (x ∷ []) h.whole, beyond-append width n (drop width cells) (x ∷ []) h.whole) refl

-- with the row that was begun as a whole one
pub HasSheet-row : (width n : ℕ) (cells : List (List ℕ)) → HasSheet width n cells → length (beyond width n (drop width cells)) ≡ length (take width cells) → n + 1 < 2 ^ 32
    → HasSheet width (n + 1) cells
HasSheet-row width n cells h same room =
    let size = length-take-le width cells h.header in
    let one : n + 1 ≡ suc n = omega arith in
    record {
      header = h.header;
      whole = rw one (HasPieces-more width n (drop width cells) h.whole (omega arith));
      count = room;
    }

pub draft_of-row : (width n : ℕ) (cells : List (List ℕ)) → HasSheet width n cells → length (beyond width n (drop width cells)) ≡ length (take width cells)
    → draft_of width (n + 1) cells ≡ record { names = take width cells; rows = pieces width n (drop width cells) ++ beyond width n (drop width cells) ∷ []; begun = [] }
draft_of-row width n cells h same =
    let size = length-take-le width cells h.header in
    let one : n + 1 ≡ suc n = omega arith in
    let last = take_all width (beyond width n (drop width cells)) (omega arith) in
    let none = drop_all width (beyond width n (drop width cells)) (omega arith) in
    rw (one, pieces-more width n (drop width cells), beyond-more width n (drop width cells), last, none) refl

-- with one column more
pub record AddsColumn (width n : ℕ) (cells : List (List ℕ)) (x : List ℕ) (wider : ℕ) : Type 0 where
  pub kept : HasSheet wider n (cells ++ x ∷ [])
  pub draft : draft_of wider n (cells ++ x ∷ []) ≡ record (draft_of width n cells) { names = take width cells ++ x ∷ [] }

pub adds-column : (width n : ℕ) (cells : List (List ℕ)) (x : List ℕ) (wider : ℕ) → HasSheet width n cells → pieces width n (drop width cells) ≡ [] → beyond width n (drop width cells) ≡ []
    → wider ≡ length (cells ++ x ∷ []) → AddsColumn width n cells x wider
unfolding pieces beyond HasPieces
adds-column width zero cells x wider h no_row no_field size =
    let low = h.header in
    let cut = length-drop width cells in
    let none : length (drop width cells) ≡ 0 = ap length no_field in
    let all = take_all width cells (omega arith) in
    let whole = take_all wider (cells ++ x ∷ []) (omega arith) in
    let rest = drop_all wider (cells ++ x ∷ []) (omega arith) in
    record {
      kept = record { header = omega arith; whole = tt; count = h.count };
      draft = rw (whole, rest, all, no_field) refl;
    }
adds-column width (suc n) cells x wider h no_row no_field size = absurd (cc no_row)

-- a field by its row and its column
pub record IsFieldAt (width n : ℕ) (cells : List (List ℕ)) (row column : ℕ) : Type 0 where
  pub within : (row + 1) * width + column < length cells
  pub field : get_or cells ((row + 1) * width + column) [] ≡ get_or (get_or (pieces width n (drop width cells)) row []) column []

pub field-at : (width n : ℕ) (cells : List (List ℕ)) (row column : ℕ) → HasSheet width n cells → row < n → column < width → IsFieldAt width n cells row column
field-at width n cells row column h lt in_row =
    let cell = cell-at width n (drop width cells) row column h.whole lt in_row in
    let size = length-drop width cells in
    let at : (row + 1) * width + column ≡ width + (row * width + column) = omega arith in
    let bound = cell.1 in
    record { within = omega arith; field = rw at (sym (cell.0 ∙ get_or-drop width cells (row * width + column) [])) }
