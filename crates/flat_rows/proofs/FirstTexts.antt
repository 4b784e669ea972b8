-- The first of the texts that a text is cut into, and the sheet that they are.
use Rattle.std.proofs.Common.{◌≡◌, ◌≤◌, ◌-◌, ◌+◌, ◌*◌, ◌∙◌, ℕ, zero, suc, List, [], ◌∷◌, take, drop, length, refl, sym, subst, arith, length-drop}
use Rattle.std.proofs.lemmas.List.{drop-take, take-take, length-take-le, drop-drop}
use Rattle.std.proofs.lemmas.Str.{IsCharBoundary-from_drop, IsUtf8-take}
use Rattle.std.specs.Prelude.{IsUtf8, slice_range}
use Rattle.load_memory.specs.Cells.{IsCut, cut, pieces, sheet_of, start_at}
use Rattle.load_memory.proofs.CellLaws.{start-within}
use Rattle.flat_rows.specs.Replies.{sheet_said}

-- where they end
pub end-within : (text : List ℕ) (start : ℕ) (ends : List ℕ) (n : ℕ) → IsCut text start ends → (start ≤ start_at start ends n) × (start_at start ends n ≤ length text)
unfolding IsCut start_at
end-within text start ends zero h = (omega arith, start-within text start ends h)
end-within text start [] (suc n) h = (omega arith, start-within text start [] h)
end-within text start (end ∷ ends) (suc n) h =
    let low = h.0 in let rest = end-within text end ends n h.2 in let first = rest.0 in
    (omega arith, rest.1)

pub end-whole : (text : List ℕ) (start : ℕ) (ends : List ℕ) (n : ℕ) → IsCut text start ends → IsUtf8 (drop start text) → IsUtf8 (drop (start_at start ends n) text)
unfolding IsCut start_at
end-whole text start ends zero h whole = whole
end-whole text start [] (suc n) h whole = whole
end-whole text start (end ∷ ends) (suc n) h whole = end-whole text end ends n h.2 h.1

-- what follows a place of the text that ends there
whole-rest : (text : List ℕ) (from to : ℕ) → from ≤ to → to ≤ length text → IsUtf8 (drop from text) → IsUtf8 (drop to text) → IsUtf8 (drop from (take to text))
whole-rest text from to low up first last =
    let sum : from + (to - from) ≡ to = omega arith in
    let room : to - from ≤ length (drop from text) = omega (arith, length-drop from text) in
    let after : drop (to - from) (drop from text) ≡ drop to text = search (drop-drop, sum) in
    let at = IsCharBoundary-from_drop (drop from text) (to - from) room (subst IsUtf8 (sym after) last) in
    let cuts : drop from (take to text) ≡ take (to - from) (drop from text) = rw sum at (drop-take from (to - from) text) in
    subst IsUtf8 (sym cuts) (IsUtf8-take (drop from text) (to - from) first at)

module _ (text : List ℕ) (to : ℕ) (up : to ≤ length text) (last : IsUtf8 (drop to text)) where
  cell-first : (start end : ℕ) → start ≤ end → end ≤ to → slice_range (take to text) start end ≡ slice_range text start end
  cell-first start end low high =
      let sum : start + (to - start) ≡ to = omega arith in
      let cuts : drop start (take to text) ≡ take (to - start) (drop start text) = rw sum at (drop-take start (to - start) text) in
      rw cuts (take-take (end - start) (to - start) (drop start text) (omega arith))

  pub IsCut-first : (start : ℕ) (ends : List ℕ) (n : ℕ) → IsCut text start ends → n ≤ length ends → start_at start ends n ≡ to → IsCut (take to text) start (take n ends)
  unfolding IsCut start_at
  IsCut-first start ends zero h le is = is ∙ sym (length-take-le to text up)
  IsCut-first start [] (suc n) h le is = absurd (omega (arith, le))
  IsCut-first start (end ∷ ends) (suc n) h le is =
      let low = (end-within text end ends n h.2).0 in
      (h.0, whole-rest text end to (omega (arith, low, is)) up h.1 last, IsCut-first end ends n h.2 (omega (arith, le)) is)

  pub cut-first : (start : ℕ) (ends : List ℕ) (n : ℕ) → IsCut text start ends → n ≤ length ends → start_at start ends n ≡ to → cut (take to text) start (take n ends) ≡ take n (cut text start ends)
  unfolding IsCut cut start_at
  cut-first start ends zero h le is = refl
  cut-first start [] (suc n) h le is = absurd (omega (arith, le))
  cut-first start (end ∷ ends) (suc n) h le is =
      let low = (end-within text end ends n h.2).0 in
      rw (cell-first start end h.0 (omega (arith, low, is)), cut-first end ends n h.2 (omega (arith, le)) is) refl

-- a sheet takes no more texts
pieces-first : (width n : ℕ) (cells : List (List ℕ)) → pieces width n (take (n * width) cells) ≡ pieces width n cells
unfolding pieces
pieces-first width zero cells = refl
pieces-first width (suc n) cells =
    let more : suc n * width ≡ width + n * width = omega arith in
    rw (more, take-take width (width + n * width) cells (omega arith), drop-take width (n * width) cells, pieces-first width n (drop width cells)) refl

pub sheet-first : (columns count : ℕ) (texts : List (List ℕ)) → sheet_of columns count (take (columns + count * columns) texts) ≡ sheet_said columns count texts
sheet-first columns count texts =
    rw (take-take columns (columns + count * columns) texts (omega arith), drop-take columns (count * columns) texts, pieces-first columns count (drop columns texts)) refl

-- the front of a text, as a range
pub front : (n : ℕ) → n - 0 ≡ n
front n = omega arith
