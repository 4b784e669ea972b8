-- Names that stand twice.
use Rattle.std.proofs.Common.{◌≡◌, ◌<◌, ◌≢◌, ◌+◌, ℕ, List, [], ◌∷◌, take, length, get_or, Bool, true, false, sym, ◌∙◌, arith, inl, inr, ◌⊎◌}
use Rattle.std.proofs.Math.Bool.{or_comm}
use Rattle.std.proofs.lemmas.List.{get_or-take, get_or_default, length-take-le}
use Rattle.std.proofs.lemmas.List.Folds.{Any-from_list_any, list_any_at, list_any_more}
use Rattle.std.proofs.lemmas.List.Sorted.{list_any-IsPermutation}
use Rattle.std.proofs.lemmas.Slice.Eq.{bytes_eq-Decides}
use Rattle.std.specs.Prelude.{bytes_eq, IsPermutation}
use Rattle.std.specs.List.{list_any}
use Rattle.csv_source.specs.Reading.{Repeats}

module _ (names : List (List ℕ)) (i : ℕ) (name : List ℕ) (lt : i < length names) (is : name ≡ get_or names i []) where
  -- a name that stands before
  pub repeats-at : list_any (λ t. bytes_eq name t) (take i names) ≡ true → Repeats names
  repeats-at known =
      let (k, x, below, here, same) = Any-from_list_any (λ t. bytes_eq name t) (take i names) known in
      let size = length-take-le i names (omega arith) in
      let at : k < i = omega arith in
      let other : name ≡ x = (bytes_eq-Decides name x).0 same in
      let found : get_or names k x ≡ x = sym (get_or-take i names k x at) ∙ here in
      record {
        first = k;
        second = i;
        earlier = at;
        within = lt;
        same = get_or_default names k [] x (omega arith) ∙ found ∙ sym other ∙ is;
      }

  -- one that doesn't
  pub apart-more : list_any (λ t. bytes_eq name t) (take i names) ≡ false → ((a b : ℕ) → a < b → b < i → get_or names a [] ≢ get_or names b [])
      → (a b : ℕ) → a < b → b < i + 1 → get_or names a [] ≢ get_or names b []
  apart-more new apart a b below within same = elim (last b within) [
    | inl lower ↦ apart a b below lower same
    | inr here ↦
        let size = length-take-le i names (omega arith) in
        let at : a < i = omega arith in
        let second : get_or names a [] ≡ get_or names i [] = rw here at same in
        let equal : name ≡ get_or names a [] = is ∙ sym second in
        let known = list_any_at (λ t. bytes_eq name t) (take i names) a [] (omega arith) ((bytes_eq-Decides name (get_or (take i names) a [])).1 (equal ∙ sym (get_or-take i names a [] at))) in
        absurd (cc (sym known ∙ new))
  ] where
    last : (b : ℕ) → b < i + 1 → (b < i) ⊎ (b ≡ i)
    last b within = grind arith

-- the names so far, with one more
pub known-more : {K : Type 0} (p : K → Bool) (q : List ℕ → Bool) (key : K) (old new : List K) (names : List (List ℕ)) (i : ℕ) → i < length names → p key ≡ q (get_or names i [])
    → list_any p old ≡ list_any q (take i names) → IsPermutation (key ∷ old) new → list_any p new ≡ list_any q (take (i + 1) names)
known-more p q key old new names i lt same known puts =
    let more = list_any_more q names i [] lt in
    sym (list_any-IsPermutation p (key ∷ old) new puts) ∙ rw (same, known, more) (or_comm (q (get_or names i [])) (list_any q (take i names)))
