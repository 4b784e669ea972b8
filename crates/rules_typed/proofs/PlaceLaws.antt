-- Places in rows.
use Rattle.std.proofs.Common.{◌≡◌, ◌∙◌, ap, refl, ℕ, Bool, true, false, ◌||◌, cond, eqb, List, [], ◌∷◌, ◌++◌}
use Rattle.std.proofs.lemmas.Bool.{eq-eqb}
use Rattle.std.specs.Prelude.{◌&&◌}
use Rattle.rules_spreads.specs.Reach.{is_among}

-- a row to which a place may have been added
pub place_more : (old new : List ℕ) (b : Bool) (i k : ℕ) → new ≡ cond b (old ++ i ∷ []) old → is_among k new ≡ ((b && eqb i k) || is_among k old)
place_more old new b i k is = ap (is_among k) is ∙ by b where
  push : (xs : List ℕ) → is_among k (xs ++ i ∷ []) ≡ (eqb i k || is_among k xs)
  push [] = refl
  push (x ∷ xs) = ap (λ c. eqb x k || c) (push xs) ∙ swap (eqb x k) (eqb i k) (is_among k xs) where
    swap : (p q r : Bool) → (p || (q || r)) ≡ (q || (p || r))
    swap true true r = refl
    swap true false r = refl
    swap false q r = refl

  by : (c : Bool) → is_among k (cond c (old ++ i ∷ []) old) ≡ ((c && eqb i k) || is_among k old)
  by true = push old
  by false = refl

-- the place that was added is in the row that it was added to, and in no other
pub place_added : (b : Bool) (i : ℕ) → ((b && eqb i i) || false) ≡ b
place_added true i = ap (λ c. c || false) (eq-eqb i i refl)
place_added false i = refl

-- any other place is where it was
pub place_kept : (b old : Bool) (i k : ℕ) → eqb i k ≡ false → ((b && eqb i k) || old) ≡ old
place_kept true old i k apart = ap (λ c. c || old) apart
place_kept false old i k apart = refl
