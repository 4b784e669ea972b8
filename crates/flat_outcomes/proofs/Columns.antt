-- The columns of rows, one by one.
use Rattle.std.proofs.Common.{◌≡◌, ◌≢◌, ◌<◌, ℕ, zero, suc, Bool, true, false, List, [], ◌∷◌, get_or, length, refl, sym, ap, arith}
use Rattle.std.specs.Prelude.{bytes_eq, not, ◌&&◌}
use Rattle.load_memory.specs.Rows.{RowOf}
use Rattle.flat_outcomes.specs.Written.{have_same_names}

-- the name of a column
abbrev pub name_at : RowOf → ℕ → List ℕ
name_at row k = (get_or row k ([], [])).0

pub other-widths : (one other : RowOf) → length one ≢ length other → have_same_names one other ≡ false
other-widths [] [] other = absurd (other refl)
other-widths [] (q ∷ qs) other = refl
other-widths (p ∷ ps) [] other = refl
other-widths (p ∷ ps) (q ∷ qs) other = rest (bytes_eq p.0 q.0) (other-widths ps qs (λ e. other (ap suc e))) where
  rest : (b : Bool) → have_same_names ps qs ≡ false → (b && have_same_names ps qs) ≡ false
  rest true e = e
  rest false e = refl

-- columns that differ by their names in one place
pub differs-at : (one other : RowOf) (k : ℕ) → k < length one → k < length other
    → bytes_eq (name_at one k) (name_at other k) ≡ false → have_same_names one other ≡ false
differs-at [] other k lt lt' differ = absurd (omega (arith, lt))
differs-at (p ∷ ps) [] k lt lt' differ = absurd (omega (arith, lt'))
differs-at (p ∷ ps) (q ∷ qs) zero lt lt' differ = rw differ refl
differs-at (p ∷ ps) (q ∷ qs) (suc k) lt lt' differ = rest (bytes_eq p.0 q.0) (differs-at ps qs k (omega (arith, lt)) (omega (arith, lt')) differ) where
  rest : (b : Bool) → have_same_names ps qs ≡ false → (b && have_same_names ps qs) ≡ false
  rest true e = e
  rest false e = refl

-- as many columns, whose names are the same in each place
pub same-all : (one other : RowOf) → length one ≡ length other
    → ((k : ℕ) → k < length one → bytes_eq (name_at one k) (name_at other k) ≡ true) → have_same_names one other ≡ true
same-all [] [] many same = refl
same-all [] (q ∷ qs) many same = absurd (omega (arith, many))
same-all (p ∷ ps) [] many same = absurd (omega (arith, many))
same-all (p ∷ ps) (q ∷ qs) many same = rw (same 0 (omega arith)) (same-all ps qs (omega (arith, many)) (λ k lt. same (suc k) (omega (arith, lt))))

pub not-true : (b : Bool) → not b ≡ true → b ≡ false
not-true true e = sym e
not-true false e = refl
