-- The field of a column.
use Rattle.std.proofs.Common.{◌≡◌, ◌<◌, ℕ, zero, suc, get_or, List, [], ◌∷◌, length, map, refl, sym, ap, arith, Bool, true, false, Some, None}
use Rattle.std.proofs.lemmas.Bool.Decides.{nat_tests}
use Rattle.std.proofs.lemmas.List.Quantifiers.{position-Some}
use Rattle.std.proofs.lemmas.List.Sums.{position_or_len_is, fails_before_first}
use Rattle.std.specs.Prelude.{bytes_eq, nat_lt, position}
use Rattle.std.specs.List.{position_or_len}
use Rattle.load_memory.specs.Rows.{paired, cell_of}

-- pairs that are taken apart and put together
pub paired-parts : {X : Type 0} (name text : X → List ℕ) (xs : List X) → paired (map name xs) (map text xs) ≡ map (λ x. (name x, text x)) xs
paired-parts name text [] = refl
paired-parts name text (x ∷ xs) = ap (λ rest. (name x, text x) ∷ rest) (paired-parts name text xs)

module _ {X : Type 0} (p : X → Bool) (xs : List X) (d : X) where
  pub position-found : (i : ℕ) → i < length xs → ((k : ℕ) → k < i → p (get_or xs k d) ≡ false) → p (get_or xs i d) ≡ true → Some i ≡ position p xs
  position-found i lt before here =
      let at = position_or_len_is p xs i d (omega arith) before (λ _. here) in
      let within : nat_lt i (length xs) ≡ true = grind (arith, nat_tests) in
      rw (at, within) refl

  pub position-none : (i : ℕ) → i ≡ length xs → ((k : ℕ) → k < i → p (get_or xs k d) ≡ false) → None ≡ position p xs
  position-none i end before =
      let at = position_or_len_is p xs i d (omega arith) before (λ lt. absurd (omega (arith, lt))) in
      let past : nat_lt i (length xs) ≡ false = grind (arith, nat_tests) in
      rw (at, past) refl

  pub none-fails : position p xs ≡ None → (k : ℕ) → k < length xs → p (get_or xs k d) ≡ false
  none-fails none k lt = fails_before_first p xs k d (past (nat_lt (position_or_len p xs) (length xs)) refl none) where
    past : (b : Bool) → nat_lt (position_or_len p xs) (length xs) ≡ b → position p xs ≡ None → k < position_or_len p xs
    past true e none = absurd (cc (rw e at none))
    past false e none = grind (arith, nat_tests)

module _ (name : List ℕ) where
  pub cell_of-named : (names cells : List (List ℕ)) (i : ℕ) → i < length names → length cells ≡ length names → ((k : ℕ) → k < i → bytes_eq (get_or names k []) name ≡ false)
      → bytes_eq (get_or names i []) name ≡ true → cell_of (paired names cells) name ≡ Some (get_or cells i [])
  cell_of-named [] cells i lt same before here = absurd (omega arith)
  cell_of-named (n ∷ ns) [] i lt same before here = absurd (omega arith)
  cell_of-named (n ∷ ns) (c ∷ cs) zero lt same before here = rw here refl
  cell_of-named (n ∷ ns) (c ∷ cs) (suc i) lt same before here =
      rw (before 0 (omega arith)) (cell_of-named ns cs i (omega arith) (omega arith) (λ k below. before (suc k) (omega arith)) here)

  pub cell_of-unnamed : (names cells : List (List ℕ)) → ((k : ℕ) → k < length names → bytes_eq (get_or names k []) name ≡ false) → cell_of (paired names cells) name ≡ None
  cell_of-unnamed [] cells other = refl
  cell_of-unnamed (n ∷ ns) [] other = refl
  cell_of-unnamed (n ∷ ns) (c ∷ cs) other = rw (other 0 (omega arith)) (cell_of-unnamed ns cs (λ k below. other (suc k) (omega arith)))

  pub cell_of-at : (names cells : List (List ℕ)) (i : ℕ) → length cells ≡ length names → Some i ≡ position (λ n. bytes_eq n name) names → cell_of (paired names cells) name ≡ Some (get_or cells i [])
  cell_of-at names cells i same at =
      let first = position-Some (λ n. bytes_eq n name) names i [] (sym at) in
      cell_of-named names cells i first.0 same first.2 first.1

  pub cell_of-none : (names cells : List (List ℕ)) → None ≡ position (λ n. bytes_eq n name) names → cell_of (paired names cells) name ≡ None
  cell_of-none names cells at = cell_of-unnamed names cells (none-fails (λ n. bytes_eq n name) names [] (sym at))

  -- a column that is found is one of the columns
  pub column-within : (names : List (List ℕ)) (i : ℕ) → Some i ≡ position (λ n. bytes_eq n name) names → i < length names
  column-within names i at = (position-Some (λ n. bytes_eq n name) names i [] (sym at)).0

-- the width of a row, and its text in a column by the column's place
pub paired-length : (names cells : List (List ℕ)) → length cells ≡ length names → length (paired names cells) ≡ length names
paired-length [] cells same = refl
paired-length (n ∷ ns) [] same = absurd (omega arith)
paired-length (n ∷ ns) (c ∷ cs) same = ap suc (paired-length ns cs (omega arith))

pub paired-at : (names cells : List (List ℕ)) (i : ℕ) → length cells ≡ length names → i < length names
    → get_or (paired names cells) i ([], []) ≡ (get_or names i [], get_or cells i [])
paired-at [] cells i same lt = absurd (omega arith)
paired-at (n ∷ ns) [] i same lt = absurd (omega arith)
paired-at (n ∷ ns) (c ∷ cs) zero same lt = refl
paired-at (n ∷ ns) (c ∷ cs) (suc i) same lt = paired-at ns cs i (omega arith) (omega arith)
