-- Ends that rise through a text.
use Rattle.std.proofs.Common.{◌≡◌, ◌≤◌, ◌<◌, ◌+◌, ℕ, get_or, List, ◌∷◌, drop, length, sym, subst, ◌↔◌}
use Rattle.std.proofs.lemmas.List.{drop_more, drop_all}
use Rattle.std.proofs.lemmas.Str.{IsUtf8-drop, IsCharBoundary-from_drop}
use Rattle.std.specs.Prelude.{IsUtf8}
use Rattle.std.specs.Str.{IsCharBoundary}
use Rattle.load_memory.specs.Cells.{IsCut}
use Rattle.load_memory.proofs.CellLaws.{start-within}

-- says what is asked of the ends from one on
abbrev pub Rest : List ℕ → List ℕ → ℕ → ℕ → Type 0
Rest text ends start i = IsCut text 0 ends ↔ IsCut text start (drop i ends)

module _ (text ends : List ℕ) (start i : ℕ) (lt : i < length ends) where
  abbrev end : ℕ
  end = get_or ends i 0

  more : drop i ends ≡ end ∷ drop (i + 1) ends
  more = drop_more ends i 0 lt

  pub rest-more : IsUtf8 text → start ≤ end → IsCharBoundary text end → Rest text ends start i → Rest text ends end (i + 1)
  unfolding IsCut
  rest-more utf8 low boundary h = (
    λ all. (subst (IsCut text start) more (h.0 all)).2,
    λ rest. h.1 (subst (IsCut text start) (sym more) (low, IsUtf8-drop text end utf8 boundary, rest)),
  )

  pub rest-low : ¬ (start ≤ end) → Rest text ends start i → ¬ (IsCut text 0 ends)
  unfolding IsCut
  rest-low fails h all = fails (subst (IsCut text start) more (h.0 all)).0

  pub rest-inside : ¬ (IsCharBoundary text end) → Rest text ends start i → ¬ (IsCut text 0 ends)
  unfolding IsCut
  rest-inside fails h all =
      let c = subst (IsCut text start) more (h.0 all) in
      fails (IsCharBoundary-from_drop text end (start-within text end (drop (i + 1) ends) c.2) c.1)

pub rest-all : (text ends : List ℕ) (start i : ℕ) → length ends ≤ i → Rest text ends start i → IsCut text 0 ends ↔ (start ≡ length text)
unfolding IsCut
rest-all text ends start i past h = subst (λ es. IsCut text 0 ends ↔ IsCut text start es) (drop_all i ends past) h
