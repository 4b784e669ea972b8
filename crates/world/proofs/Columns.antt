-- Lemmas on whether a sheet has a column.
use Rattle.std.proofs.Common.{◌≡◌, ◌∙◌, ℕ, Bool, List, [], true, false, get_or, sym, refl, Some, None, inl, inr}
use Rattle.std.proofs.lemmas.Bool.{cases_Bool}
use Rattle.std.proofs.lemmas.List.{get_or_default}
use Rattle.std.proofs.lemmas.List.Folds.{Any-from_list_any, list_any_at}
use Rattle.std.proofs.lemmas.List.Quantifiers.{position-Some}
use Rattle.std.proofs.lemmas.Slice.Eq.{bytes_eq-Decides}
use Rattle.std.specs.Prelude.{bytes_eq, position, Contains, Result, Ok, Err, IfOk}
use Rattle.std.specs.List.{list_any}
use Rattle.csv_source.proofs.Columns.{absent, found-name}
use Rattle.csv_source.specs.Tables.{IndexOf, PairIndexOf, rows_of, index_of}
use Rattle.load_memory.specs.Rows.{SheetOf}
use Rattle.load_memory.specs.declared.key.KeyMode.{KeyMode}
use Rattle.world.specs.declared.fault.WorldFault.TheVariants.{NoSuchColumn}
use Rattle.world.specs.Sources.{has_column, source_by_columns}
use Rattle.world.specs.IndexedColumns.{source_by_index, source_by_pair_index}

module _ (names : List (List ℕ)) (column : List ℕ) where
  pub there : (place : ℕ) → Some place ≡ position (λ n. bytes_eq n column) names → list_any (bytes_eq column) names ≡ true
  there place at =
      let first = position-Some (λ n. bytes_eq n column) names place [] (sym at) in
      let same : column ≡ get_or names place [] = sym (found-name names column place at) in
      list_any_at (bytes_eq column) names place [] first.0 ((bytes_eq-Decides column (get_or names place [])).1 same)

  pub missing : None ≡ position (λ n. bytes_eq n column) names → list_any (bytes_eq column) names ≡ false
  missing none = elim (cases_Bool (list_any (bytes_eq column) names)) [
    | inl known ↦
        let (k, x, below, here, same) = Any-from_list_any (bytes_eq column) names known in
        let is : column ≡ x = (bytes_eq-Decides column x).0 same in
        absurd (absent names column none (k, below, get_or_default names k column x below ∙ here ∙ sym is))
    | inr fails ↦ fails
  ]

pub on_ok : {A E : Type 0} (P Q : A → Type 0) → ((x : A) → P x → Q x) → (r : Result A E) → IfOk r P → IfOk r Q
on_ok P Q f (Ok x) p = f x p
on_ok P Q f (Err e) p = p

-- the index of a column that is there is the source by it
pub source-there : (s : SheetOf) (column : List ℕ) (place : ℕ) (mode : KeyMode) (x : IndexOf) → Some place ≡ position (λ n. bytes_eq n column) s.names
    → x ≡ index_of s place mode → source_by_columns s column None mode ≡ Ok (source_by_index x)
source-there s column place mode x at is = rw (is, there s.names column place at, found-name s.names column place at) refl

pub source-missing : (s : SheetOf) (column : List ℕ) (mode : KeyMode) → None ≡ position (λ n. bytes_eq n column) s.names → source_by_columns s column None mode ≡ Err NoSuchColumn
source-missing s column mode none = rw (missing s.names column none) refl

-- ---- two columns

known-of : (names : List (List ℕ)) (column : List ℕ) → Contains names column → list_any (bytes_eq column) names ≡ true
known-of names column (k, lt, here) =
    list_any_at (bytes_eq column) names k [] lt ((bytes_eq-Decides column (get_or names k [])).1 (sym here ∙ get_or_default names k column [] lt))

of-known : (names : List (List ℕ)) (column : List ℕ) → list_any (bytes_eq column) names ≡ true → Contains names column
of-known names column known =
    let (k, x, below, here, same) = Any-from_list_any (bytes_eq column) names known in
    let is : column ≡ x = (bytes_eq-Decides column x).0 same in
    (k, below, get_or_default names k column x below ∙ here ∙ sym is)

pub pair-there : (s : SheetOf) (column second : List ℕ) (mode : KeyMode) (x : PairIndexOf) → Contains s.names column × Contains s.names second
    → x ≡ record { rows = rows_of s; column = column; second = second; mode = mode } → source_by_columns s column (Some second) mode ≡ Ok (source_by_pair_index x)
pair-there s column second mode x both is = rw (is, known-of s.names column both.0, known-of s.names second both.1) refl

pub pair-missing : (s : SheetOf) (column second : List ℕ) (mode : KeyMode) → ¬ (Contains s.names column × Contains s.names second)
    → source_by_columns s column (Some second) mode ≡ Err NoSuchColumn
pair-missing s column second mode none = go (has_column s column) refl (has_column s second) refl where
  go : (a : Bool) → has_column s column ≡ a → (b : Bool) → has_column s second ≡ b → source_by_columns s column (Some second) mode ≡ Err NoSuchColumn
  go true e true f = absurd (none (of-known s.names column e, of-known s.names second f))
  go true e false f = rw (e, f) refl
  go false e b f = rw e refl
