-- The rows of a text, by the links of an index.
use Rattle.std.proofs.Common.{◌≡◌, ◌<◌, ◌≤◌, ◌+◌, ◌-◌, ℕ, zero, suc, List, [], ◌∷◌, ◌++◌, length, take, get_or, Bool, true, false, Option, Some, None, sym, refl, ap, ◌∙◌, arith, inl, inr, ◌⊎◌}
use Rattle.std.proofs.lemmas.Bool.{eq-eqb}
use Rattle.std.proofs.lemmas.List.{append-nil, take_all}
use Rattle.std.proofs.lemmas.List.Elements.{filter_more}
use Rattle.std.proofs.lemmas.Slice.Eq.{bytes_eq-Decides}
use Rattle.std.specs.Prelude.{◌==◌, ◌&&◌, not, bytes_eq, filter}
use Rattle.load_memory.specs.Keys.{fold_text}
use Rattle.load_memory.specs.Rows.{RowOf, cell_of}
use Rattle.load_memory.specs.declared.key.KeyMode.{KeyMode}
use Rattle.csv_source.specs.Chains.{IsNext, IsLinked}
use Rattle.csv_source.specs.Hashes.{bucket_of, in_bucket, cell_in, pair_bucket_of, pair_in_bucket, cells_in}
use Rattle.csv_source.specs.Tables.{has_text, has_pair, cell_is}

and-first : (a b : Bool) → (a && b) ≡ true → a ≡ true
and-first true b e = refl
and-first false b e = e

and-second : (a b : Bool) → (a && b) ≡ true → b ≡ true
and-second true b e = e
and-second false b e = absurd (cc e)

and-both : (a b : Bool) → a ≡ true → b ≡ true → (a && b) ≡ true
and-both a b p q = rw (p, q) refl

not-passing : (b : Bool) → (b ≡ true → ⊥) → b ≡ false
not-passing true h = absurd (h refl)
not-passing false h = refl

-- a row that has a text is of the text's bucket
cell-in : (mode : KeyMode) (buckets : ℕ) (folded : List ℕ) (cell : Option (List ℕ)) → cell_is mode folded cell ≡ true → cell_in mode buckets (bucket_of mode buckets folded) cell ≡ true
cell-in mode buckets folded None e = e
cell-in mode buckets folded (Some field) e =
    let there = and-first (not (length field == 0)) (bytes_eq folded (fold_text mode field)) e in
    let same : folded ≡ fold_text mode field = (bytes_eq-Decides folded (fold_text mode field)).0 (and-second (not (length field == 0)) (bytes_eq folded (fold_text mode field)) e) in
    and-both _ _ there (eq-eqb _ _ (ap (bucket_of mode buckets) (sym same)))

pub in_bucket-has_text : (mode : KeyMode) (column folded : List ℕ) (buckets : ℕ) (row : RowOf) → has_text mode column folded row ≡ true → in_bucket mode column buckets (bucket_of mode buckets folded) row ≡ true
in_bucket-has_text mode column folded buckets row e = cell-in mode buckets folded (cell_of row column) e

-- a row that has a pair is of the pair's bucket
cells-in : (mode : KeyMode) (buckets : ℕ) (s t : List ℕ) (one two : Option (List ℕ)) → (cell_is mode s one && cell_is mode t two) ≡ true → cells_in mode buckets (pair_bucket_of mode buckets s t) one two ≡ true
cells-in mode buckets s t None two e = e
cells-in mode buckets s t (Some one) None e = absurd (cc (sym e ∙ none (cell_is mode s (Some one)))) where
  none : (b : Bool) → (b && false) ≡ false
  none true = refl
  none false = refl
cells-in mode buckets s t (Some one) (Some two) e =
    let a = and-first (cell_is mode s (Some one)) (cell_is mode t (Some two)) e in
    let b = and-second (cell_is mode s (Some one)) (cell_is mode t (Some two)) e in
    let there = and-both _ _ (and-first (not (length one == 0)) (bytes_eq s (fold_text mode one)) a) (and-first (not (length two == 0)) (bytes_eq t (fold_text mode two)) b) in
    let first : s ≡ fold_text mode one = (bytes_eq-Decides s (fold_text mode one)).0 (and-second (not (length one == 0)) (bytes_eq s (fold_text mode one)) a) in
    let second : t ≡ fold_text mode two = (bytes_eq-Decides t (fold_text mode two)).0 (and-second (not (length two == 0)) (bytes_eq t (fold_text mode two)) b) in
    and-both _ _ there (eq-eqb _ _ (rw (← first, ← second) refl))

pub in_bucket-has_pair : (mode : KeyMode) (column second s t : List ℕ) (buckets : ℕ) (row : RowOf) → has_pair mode column second s t row ≡ true → pair_in_bucket mode column second buckets (pair_bucket_of mode buckets s t) row ≡ true
in_bucket-has_pair mode column second s t buckets row e = cells-in mode buckets s t (cell_of row column) (cell_of row second) e

module _ (p : RowOf → Bool) (rows : List RowOf) where
  -- rows that don't pass
  skips : (from d : ℕ) → ((k : ℕ) → from ≤ k → k < from + d → k < length rows → p (get_or rows k []) ≡ false) → filter p (take (from + d) rows) ≡ filter p (take from rows)
  skips from zero none = rw (plus from) refl where
    plus : (n : ℕ) → n + 0 ≡ n
    plus n = omega arith
  skips from (suc d) none =
      let one : from + suc d ≡ (from + d) + 1 = omega arith in
      rw one (step (from + d) refl ∙ skips from d (λ k low below within. none k low (omega arith) within))
    where
      step : (i : ℕ) → i ≡ from + d → filter p (take (i + 1) rows) ≡ filter p (take i rows)
      step i at = elim (cases i) [
        | inl lt ↦ rw (filter_more p rows i [] lt, none i (omega arith) (omega arith) lt) (append-nil (filter p (take i rows)))
        | inr le ↦ rw (take_all i rows le, take_all (i + 1) rows (omega arith)) refl
      ]
        where
          cases : (i : ℕ) → (i < length rows) ⊎ (length rows ≤ i)
          cases i = grind arith

  -- from one row of a bucket to the next
  pub filter-next : (test : RowOf → Bool) (from to : ℕ) → ((x : RowOf) → p x ≡ true → test x ≡ true) → IsNext test rows from to → filter p (take to rows) ≡ filter p (take from rows)
  filter-next test from to wider next =
      let low = next.later in
      let sum : from + (to - from) ≡ to = omega arith in
      rw sum at (skips from (to - from) (λ k below above within. not-passing _ (λ yes. absurd (cc (sym (wider _ yes) ∙ next.between k below (omega arith) within)))))

  -- the row that was reached
  pub filter-here : (place : ℕ) → place < length rows → p (get_or rows place []) ≡ true → filter p (take (place + 1) rows) ≡ filter p (take place rows) ++ get_or rows place [] ∷ []
  filter-here place lt here = rw (filter_more p rows place [] lt, here) refl

  -- from a row of a bucket that wasn't passed to the next one that passes
  pub next-through : (test : RowOf → Bool) (from mid to : ℕ) → ((x : RowOf) → p x ≡ true → test x ≡ true) → IsNext test rows from mid → IsNext p rows mid to → IsNext p rows from to
  next-through test from mid to wider near far =
      let low = near.later in
      let high = far.later in
      record {
        later = omega arith;
        between = λ k from below within. elim (cases k) [
          | inl early ↦ not-passing _ (λ yes. absurd (cc (sym (wider _ yes) ∙ near.between k from early within)))
          | inr late ↦ far.between k late below within
        ];
        passes = far.passes;
      }
    where
      cases : (k : ℕ) → (k < mid) ⊎ (mid ≤ k)
      cases k = grind arith

-- the rows that pass before a place past the rows or of a row that passes
pub record IsWalk (p : RowOf → Bool) (rows : List RowOf) (place : ℕ) (found : List RowOf) : Type 0 where
  pub rows_before : found ≡ filter p (take place rows)
  pub reached : place < length rows → p (get_or rows place []) ≡ true

-- no row passes from a place on up to one in a bucket
pub record IsSearch (p inside : RowOf → Bool) (rows : List RowOf) (from place : ℕ) : Type 0 where
  pub later : from ≤ place
  pub between : (k : ℕ) → from ≤ k → k < place → k < length rows → p (get_or rows k []) ≡ false
  pub reached : place < length rows → inside (get_or rows place []) ≡ true

module _ (p : RowOf → Bool) (rows : List RowOf) where
  pub walk-all : (place : ℕ) (found : List RowOf) → length rows ≤ place → IsWalk p rows place found → found ≡ filter p rows
  walk-all place found past walk = walk.rows_before ∙ ap (filter p) (take_all place rows past)

  pub search-start : (inside : RowOf → Bool) (place : ℕ) → (place < length rows → inside (get_or rows place []) ≡ true) → IsSearch p inside rows place place
  search-start inside place reached = record { later = omega arith; between = λ k from below within. absurd (omega arith); reached = reached }

  pub search-end : (inside : RowOf → Bool) (from place : ℕ) → IsSearch p inside rows from place → (place < length rows → p (get_or rows place []) ≡ true) → IsNext p rows from place
  search-end inside from place search passes = record { later = search.later; between = search.between; passes = passes }

-- by the links of a bucket in which all rows are that pass
module _ (is_in : ℕ → ℕ → RowOf → Bool) (rows : List RowOf) (first next : List ℕ) (linked : IsLinked is_in rows first next 0) (p : RowOf → Bool) (bucket : ℕ)
    (wider : (x : RowOf) → p x ≡ true → is_in (length first) bucket x ≡ true) where
  pub walk-start : (to : ℕ) → bucket < length first → IsNext p rows (get_or first bucket 0) to → IsWalk p rows to []
  walk-start to lt far =
      let all = next-through p rows (is_in (length first) bucket) 0 _ to wider (linked.heads bucket lt) far in
      record { rows_before = sym (filter-next p rows p 0 to (λ x yes. yes) all); reached = all.passes }

  module _ (place : ℕ) (lt : place < length rows) where
    following : is_in (length first) bucket (get_or rows place []) ≡ true → IsNext (is_in (length first) bucket) rows (place + 1) (get_or next place 0)
    following here = linked.follows place bucket (omega arith) lt here

    pub walk-following : (found : List RowOf) → IsWalk p rows place found → IsNext (is_in (length first) bucket) rows (place + 1) (get_or next place 0)
    walk-following found walk = following (wider _ (walk.reached lt))

    pub walk-step : (found : List RowOf) (to : ℕ) → IsWalk p rows place found → IsNext p rows (get_or next place 0) to → IsWalk p rows to (found ++ get_or rows place [] ∷ [])
    walk-step found to walk far =
        let here = walk.reached lt in
        let all = next-through p rows (is_in (length first) bucket) (place + 1) _ to wider (following (wider _ here)) far in
        record {
          rows_before = rw (walk.rows_before) (sym (filter-here p rows place lt here)) ∙ sym (filter-next p rows p (place + 1) to (λ x yes. yes) all);
          reached = all.passes;
        }

    pub search-step : (from : ℕ) → IsSearch p (is_in (length first) bucket) rows from place → p (get_or rows place []) ≡ false → IsSearch p (is_in (length first) bucket) rows from (get_or next place 0)
    search-step from search past =
        let near = following (search.reached lt) in
        let low = search.later in
        let high = near.later in
        record {
          later = omega arith;
          between = λ k after below within. elim (cases k) [
            | inl early ↦ search.between k after early within
            | inr (inl here) ↦ rw here past
            | inr (inr late) ↦ not-passing _ (λ yes. absurd (cc (sym (wider _ yes) ∙ near.between k late below within)))
          ];
          reached = near.passes;
        }
      where
        cases : (k : ℕ) → (k < place) ⊎ (k ≡ place) ⊎ (place + 1 ≤ k)
        cases k = grind arith
