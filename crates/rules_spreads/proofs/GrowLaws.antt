-- Rows that grow.
use Rattle.std.proofs.Common.{◌≡◌, ◌<◌, refl, zero, suc, ℕ, cond, eqb, List, [], ◌∷◌, ◌++◌, length, get_or, set, Vec, arith}
use Rattle.std.proofs.Math.Dec.{eqb-suc-zero, eqb-zero-suc, eqb-suc-suc}
use Rattle.std.specs.declared.alloc.Global.{Global}
use Rattle.rules_spreads.specs.Graphs.{row_at}
use Rattle.rules_spreads.specs.Rows.{rows_in}

-- an empty row behind the others
pub row_at-pad : (rows : List (Vec ℕ Global)) (empty : Vec ℕ Global) (i : ℕ) → empty.items ≡ [] → row_at (rows_in (rows ++ empty ∷ [])) i ≡ row_at (rows_in rows) i
row_at-pad [] empty zero none = none
row_at-pad [] empty (suc i) none = refl
row_at-pad (row ∷ rows) empty zero none = refl
row_at-pad (row ∷ rows) empty (suc i) none = row_at-pad rows empty i none

-- a row with one more number
pub row_at-put : (rows : List (Vec ℕ Global)) (at i : ℕ) (v d : Vec ℕ Global) (number : ℕ) → at < length rows → v.items ≡ (get_or rows at d).items ++ number ∷ []
    → row_at (rows_in (set rows at v)) i ≡ cond (eqb i at) (row_at (rows_in rows) i ++ number ∷ []) (row_at (rows_in rows) i)
row_at-put [] at i v d number within is = absurd (omega arith)
row_at-put (row ∷ rows) zero zero v d number within is = is
row_at-put (row ∷ rows) zero (suc i) v d number within is = rw (eqb-suc-zero i)
row_at-put (row ∷ rows) (suc at) zero v d number within is = rw (eqb-zero-suc at)
row_at-put (row ∷ rows) (suc at) (suc i) v d number within is = rw (eqb-suc-suc i at) (row_at-put rows at i v d number (omega arith) is)
