-- Cutting one text into cells.
use Rattle.std.proofs.Common.{◌≡◌, ◌≤◌, ◌<◌, ◌-◌, ◌+◌, ◌*◌, ℕ, zero, suc, get_or, List, [], ◌∷◌, ◌++◌, take, drop, length, refl, sym, ap, arith, length-append, length-drop, false, inl, inr}
use Rattle.std.proofs.lemmas.List.{drop-append-le, take-append-le, drop_all, take_all, drop_at, length-take-le}
use Rattle.std.proofs.lemmas.Str.{IsUtf8-append, IsUtf8-nil}
use Rattle.std.proofs.lemmas.Str.{IsCharBoundary-from_drop}
use Rattle.std.proofs.lemmas.Bool.{cases_eq, false_from_ne_true}
use Rattle.std.proofs.lemmas.Slice.Eq.{bytes_eq-Decides}
use Rattle.std.specs.Prelude.{IsUtf8, slice_range, bytes_eq}
use Rattle.std.specs.Str.{IsCharBoundary}
use Rattle.load_memory.specs.Cells.{cut, IsCut, HasPieces, start_at}

-- no start lies past the end of the text
pub start-within : (text : List ℕ) (start : ℕ) (ends : List ℕ) → IsCut text start ends → start ≤ length text
unfolding IsCut
start-within text start [] h = omega arith
start-within text start (end ∷ ends) h =
    let low = h.0 in
    let rest = start-within text end ends h.2 in
    omega arith

pub length-cut : (text : List ℕ) (start : ℕ) (ends : List ℕ) → length (cut text start ends) ≡ length ends
unfolding cut
length-cut text start [] = refl
length-cut text start (end ∷ ends) = ap suc (length-cut text end ends)

-- one more text
pub cut-push : (text more : List ℕ) (start size : ℕ) (ends : List ℕ) → IsCut text start ends → size ≡ length (text ++ more)
    → cut (text ++ more) start (ends ++ size ∷ []) ≡ cut text start ends ++ more ∷ []
unfolding cut IsCut
cut-push text more start size [] h e =
    let low : start ≤ length text = omega arith in
    let n = length-append text more in
    let d : drop start (text ++ more) ≡ more = drop_at text more start (sym h) in
    let t : take (size - start) more ≡ more = take_all (size - start) more (omega arith) in
    rw (d, t) refl
cut-push text more start size (end ∷ ends) h e =
    let low = h.0 in
    let up = start-within text end ends h.2 in
    let at : start ≤ length text = omega arith in
    let room : end - start ≤ length (drop start text) = omega (arith, length-drop start text) in
    rw (drop-append-le start text more at, take-append-le (end - start) (drop start text) more room, cut-push text more end size ends h.2 e) refl

pub IsCut-push : (text more : List ℕ) (start size : ℕ) (ends : List ℕ) → IsCut text start ends → IsUtf8 more → size ≡ length (text ++ more)
    → IsCut (text ++ more) start (ends ++ size ∷ [])
unfolding IsCut
IsCut-push text more start size [] h utf8 e =
    let n = length-append text more in
    (omega arith, rw (drop_all size (text ++ more) (omega arith)) IsUtf8-nil, e)
IsCut-push text more start size (end ∷ ends) h utf8 e =
    let up = start-within text end ends h.2 in
    (h.0, rw (drop-append-le end text more up) (IsUtf8-append _ _ h.1 utf8), IsCut-push text more end size ends h.2 utf8 e)

-- a text of these, by where it starts and ends
pub record IsCellAt (text : List ℕ) (from to : ℕ) (cell : List ℕ) : Type 0 where
  pub ordered : from ≤ to
  pub from_boundary : 0 < from → IsCharBoundary text from
  pub to_boundary : IsCharBoundary text to
  pub value : slice_range text from to ≡ cell

pub cell-at : (text : List ℕ) (start : ℕ) (ends : List ℕ) (i : ℕ) → IsCut text start ends → (0 < start → IsCharBoundary text start) → i < length ends
    → IsCellAt text (start_at start ends i) (get_or ends i 0) (get_or (cut text start ends) i [])
unfolding cut IsCut start_at
cell-at text start [] i h from lt = absurd (omega arith)
cell-at text start (end ∷ ends) zero h from lt = record {
  ordered = h.0;
  from_boundary = from;
  to_boundary = IsCharBoundary-from_drop text end (start-within text end ends h.2) h.1;
  value = refl;
}
cell-at text start (end ∷ ends) (suc i) h from lt = cell-at text end ends i h.2 (λ _. IsCharBoundary-from_drop text end (start-within text end ends h.2) h.1) (omega arith)

pub start_at-first : (start : ℕ) (ends : List ℕ) → start_at start ends 0 ≡ start
unfolding start_at
start_at-first start ends = refl

pub start_at-next : (start : ℕ) (ends : List ℕ) (i d : ℕ) → i < length ends → start_at start ends (suc i) ≡ get_or ends i d
unfolding start_at
start_at-next start [] i d lt = absurd (omega arith)
start_at-next start (end ∷ ends) zero d lt = refl
start_at-next start (end ∷ ends) (suc i) d lt = start_at-next end ends i d (omega arith)

-- the cell that starts at a place which is where the text with an index starts
pub cell-from : (text ends : List ℕ) (start i : ℕ) → IsCut text 0 ends → i < length ends → start ≡ start_at 0 ends i
    → IsCellAt text start (get_or ends i 0) (get_or (cut text 0 ends) i [])
cell-from text ends start i cuts lt e = rw e (cell-at text 0 ends i cuts (λ none. absurd (omega (arith, none))) lt)

-- a cell is as long as its ends are apart
pub length-cell : (text : List ℕ) (from to : ℕ) (cell : List ℕ) → IsCellAt text from to cell → length cell ≡ to - from
length-cell text from to cell at =
    let within = at.to_boundary.0 in
    let ordered = at.ordered in
    let whole = length-drop from text in
    rw (← at.value) (length-take-le (to - from) (drop from text) (omega arith))

-- texts of other lengths are others
pub other-length : (cell text : List ℕ) → (length cell ≡ length text → ⊥) → bytes_eq cell text ≡ false
other-length cell text differ = false_from_ne_true (bytes_eq cell text) (λ e. differ (ap length ((bytes_eq-Decides cell text).0 e)))

-- none of the texts up to one is this text
pub none-next : (cells : List (List ℕ)) (text : List ℕ) (i : ℕ) → ((k : ℕ) → k < i → bytes_eq (get_or cells k []) text ≡ false) → bytes_eq (get_or cells i []) text ≡ false
    → (k : ℕ) → k < i + 1 → bytes_eq (get_or cells k []) text ≡ false
none-next cells text i before here k le = elim (cases_eq k i) [
  | inl e ↦ rw e here
  | inr ne ↦ before k (omega arith)
]

-- as many cells as the pieces have are enough for them
pub pieces-there : (width n : ℕ) (cells : List (List ℕ)) → length cells ≡ n * width → HasPieces width n cells
unfolding HasPieces
pieces-there width zero cells e = tt
pieces-there width (suc n) cells e = (omega (arith, e), pieces-there width n (drop width cells) (omega (arith, e, length-drop width cells)))
