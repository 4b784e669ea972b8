-- Lemmas on whether a column is there.
use Rattle.std.proofs.Common.{◌≡◌, ◌∙◌, ℕ, List, [], get_or, sym, Some, None}
use Rattle.std.proofs.lemmas.List.{get_or_default}
use Rattle.std.proofs.lemmas.List.Quantifiers.{position-Some}
use Rattle.std.proofs.lemmas.Slice.Eq.{bytes_eq-Decides}
use Rattle.std.specs.Prelude.{bytes_eq, position, Contains}
use Rattle.load_memory.proofs.RowLaws.{none-fails}
use Rattle.load_memory.specs.Rows.{SheetOf}
use Rattle.csv_source.specs.Chains.{IsColumn}

module _ (names : List (List ℕ)) (name : List ℕ) where
  pub absent : None ≡ position (λ n. bytes_eq n name) names → Contains names name → ⊥
  absent none (k, lt, here) =
      let other = none-fails (λ n. bytes_eq n name) names name (sym none) k lt in
      let same = (bytes_eq-Decides (get_or names k name) name).1 here in
      cc (sym same ∙ other)

  -- a column that was found has that name
  pub found-name : (column : ℕ) → Some column ≡ position (λ n. bytes_eq n name) names → get_or names column [] ≡ name
  found-name column at =
      let first = position-Some (λ n. bytes_eq n name) names column [] (sym at) in
      (bytes_eq-Decides (get_or names column []) name).0 first.1

  pub found : (column : ℕ) → Some column ≡ position (λ n. bytes_eq n name) names → Contains names name
  found column at =
      let first = position-Some (λ n. bytes_eq n name) names column [] (sym at) in
      (column, first.0, get_or_default names column name [] first.0 ∙ found-name column at)

-- and is the first of its own name
pub IsColumn-found : (s : SheetOf) (name : List ℕ) (column : ℕ) → Some column ≡ position (λ n. bytes_eq n name) s.names → IsColumn s column
IsColumn-found s name column at = rw (found-name s.names name column at) at
