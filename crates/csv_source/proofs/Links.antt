-- The links of an index, from the last row up.
use Rattle.std.proofs.Common.{◌≡◌, ◌<◌, ◌≤◌, ◌≢◌, ◌+◌, ℕ, List, [], length, get_or, set, Bool, true, false, Some, sym, refl, ◌∙◌, arith, inl, inr, ◌⊎◌}
use Rattle.std.proofs.lemmas.Bool.{eqb-true, eq-eqb}
use Rattle.std.proofs.lemmas.List.{get_or-map, get_or-set_same, get_or-set_other, length-set, length-map}
use Rattle.std.specs.Prelude.{◌==◌, ◌&&◌, not, bytes_eq}
use Rattle.load_memory.specs.Keys.{fold_text}
use Rattle.load_memory.specs.Rows.{RowOf, SheetOf, IsRectangular, paired, cell_of}
use Rattle.load_memory.specs.declared.key.KeyMode.{KeyMode}
use Rattle.load_memory.proofs.RowLaws.{cell_of-at}
use Rattle.csv_source.specs.Chains.{IsNext, IsLinked, IsColumn}
use Rattle.csv_source.specs.Hashes.{bucket_of, in_bucket, pair_bucket_of, pair_in_bucket}
use Rattle.csv_source.specs.Tables.{rows_of, has_text, has_pair}

pub length-rows_of : (s : SheetOf) → length (rows_of s) ≡ length s.rows
length-rows_of s = length-map s.rows (paired s.names)

-- the field of a column at a row
pub cell_of-rows_of : (s : SheetOf) (column row : ℕ) → IsRectangular s → IsColumn s column → row < length s.rows
    → cell_of (get_or (rows_of s) row []) (get_or s.names column []) ≡ Some (get_or (get_or s.rows row []) column [])
cell_of-rows_of s column row rectangular named lt =
    rw (get_or-map (paired s.names) s.rows row [] [] lt) (cell_of-at (get_or s.names column []) s.names (get_or s.rows row []) column (rectangular row [] lt) named)

either : (a b : ℕ) → a ≤ b → (a ≡ b) ⊎ (a + 1 ≤ b)
either a b le = grind arith

module _ (test : RowOf → Bool) (rows : List RowOf) where
  -- a row that doesn't pass
  pub next-back : (row to : ℕ) → test (get_or rows row []) ≡ false → IsNext test rows (row + 1) to → IsNext test rows row to
  next-back row to not_here next =
      let low = next.later in
      record {
        later = omega arith;
        between = λ k from below within. elim (either row k from) [
          | inl here ↦ rw (← here) not_here
          | inr later ↦ next.between k later below within
        ];
        passes = next.passes;
      }

  pub next-here : (row : ℕ) → test (get_or rows row []) ≡ true → IsNext test rows row row
  next-here row here = record { later = omega arith; between = λ k from below within. absurd (omega arith); passes = λ within. here }

  pub next-none : (end : ℕ) → end ≡ length rows → IsNext test rows end end
  next-none end all = record { later = omega arith; between = λ k from below within. absurd (omega arith); passes = λ within. absurd (omega arith) }

module _ (is_in : ℕ → ℕ → RowOf → Bool) (rows : List RowOf) (first next : List ℕ) (row : ℕ) (linked : IsLinked is_in rows first next (row + 1)) where
  -- a row of no bucket
  pub links-past : ((bucket : ℕ) → is_in (length first) bucket (get_or rows row []) ≡ false) → IsLinked is_in rows first next row
  links-past nowhere = record {
    links = linked.links;
    heads = λ bucket lt. next-back (is_in (length first) bucket) rows row _ (nowhere bucket) (linked.heads bucket lt);
    follows = λ place bucket from within is. elim (either row place from) [
      | inl here ↦ absurd (cc (sym is ∙ rw here at (nowhere bucket)))
      | inr later ↦ linked.follows place bucket later within is
    ];
  }

  -- a row of a bucket, which comes before the rest of it
  module _ (bucket : ℕ) (in_range : bucket < length first) (within : row < length rows) (of : (other : ℕ) → is_in (length first) other (get_or rows row []) ≡ (bucket == other)) where
    pub links-more : IsLinked is_in rows (set first bucket row) (set next row (get_or first bucket 0)) row
    links-more =
        let size = length-set first bucket row in
        record {
          links = length-set next row (get_or first bucket 0) ∙ linked.links;
          heads = λ other lt. rw size (head other (bucket == other) refl (rw size at lt));
          follows = λ place other from within is. rw size (follow place other from within (rw size at is));
        }
      where
        head : (other : ℕ) (b : Bool) → (bucket == other) ≡ b → other < length first → IsNext (is_in (length first) other) rows row (get_or (set first bucket row) other 0)
        head other true e lt =
            let same : bucket ≡ other = eqb-true bucket other e in
            rw (← same, get_or-set_same first bucket row 0 in_range) (next-here (is_in (length first) bucket) rows row (of bucket ∙ eq-eqb bucket bucket refl))
        head other false e lt =
            let differs : other ≢ bucket = λ same. absurd (cc (sym e ∙ eq-eqb bucket other (sym same))) in
            rw (get_or-set_other first bucket other row 0 differs) (next-back (is_in (length first) other) rows row _ (of other ∙ e) (linked.heads other lt))

        follow : (place other : ℕ) → row ≤ place → place < length rows → is_in (length first) other (get_or rows place []) ≡ true
            → IsNext (is_in (length first) other) rows (place + 1) (get_or (set next row (get_or first bucket 0)) place 0)
        follow place other from lt is = elim (either row place from) [
          | inl here ↦
              let there : is_in (length first) other (get_or rows row []) ≡ true = rw (← here) at is in
              let same : bucket ≡ other = eqb-true bucket other (sym (of other) ∙ there) in
              let size : row < length next = omega (arith, linked.links) in
              rw (← here, ← same, get_or-set_same next row (get_or first bucket 0) 0 size) (linked.heads bucket in_range)
          | inr later ↦
              let differs : place ≢ row = omega arith in
              rw (get_or-set_other next row place (get_or first bucket 0) 0 differs) (linked.follows place other later lt is)
        ]

module _ (s : SheetOf) (column row : ℕ) (mode : KeyMode) (buckets other : ℕ) (rectangular : IsRectangular s) (named : IsColumn s column) (lt : row < length s.rows) where
  -- a row whose field isn't empty is of the bucket of its text
  pub in_bucket-text : (length (get_or (get_or s.rows row []) column []) == 0) ≡ false
      → in_bucket mode (get_or s.names column []) buckets other (get_or (rows_of s) row []) ≡ (bucket_of mode buckets (fold_text mode (get_or (get_or s.rows row []) column [])) == other)
  in_bucket-text there = rw (cell_of-rows_of s column row rectangular named lt, there) refl

  -- a row whose field is empty is of none
  pub in_bucket-null : (length (get_or (get_or s.rows row []) column []) == 0) ≡ true → in_bucket mode (get_or s.names column []) buckets other (get_or (rows_of s) row []) ≡ false
  in_bucket-null null = rw (cell_of-rows_of s column row rectangular named lt, null) refl

-- a row of a bucket has a text exactly if its cell, folded, is that text
pub has_text-in_bucket : (s : SheetOf) (column row : ℕ) (mode : KeyMode) (buckets bucket : ℕ) (folded : List ℕ) → IsRectangular s → IsColumn s column → row < length s.rows
    → in_bucket mode (get_or s.names column []) buckets bucket (get_or (rows_of s) row []) ≡ true
    → has_text mode (get_or s.names column []) folded (get_or (rows_of s) row []) ≡ bytes_eq folded (fold_text mode (get_or (get_or s.rows row []) column []))
has_text-in_bucket s column row mode buckets bucket folded rectangular named lt reached = go (length (get_or (get_or s.rows row []) column []) == 0) refl where
  go : (b : Bool) → (length (get_or (get_or s.rows row []) column []) == 0) ≡ b
      → has_text mode (get_or s.names column []) folded (get_or (rows_of s) row []) ≡ bytes_eq folded (fold_text mode (get_or (get_or s.rows row []) column []))
  go true e = absurd (cc (sym (in_bucket-null s column row mode buckets bucket rectangular named lt e) ∙ reached))
  go false e = rw (cell_of-rows_of s column row rectangular named lt, e) refl

module _ (s : SheetOf) (column second row : ℕ) (mode : KeyMode) (buckets bucket : ℕ) (rectangular : IsRectangular s) (named : IsColumn s column) (second_named : IsColumn s second) (lt : row < length s.rows) where
  abbrev one : List ℕ
  one = get_or (get_or s.rows row []) column []

  abbrev two : List ℕ
  two = get_or (get_or s.rows row []) second []

  abbrev is_here : Bool
  is_here = pair_in_bucket mode (get_or s.names column []) (get_or s.names second []) buckets bucket (get_or (rows_of s) row [])

  -- a row neither of whose two fields is empty is of the bucket of their texts
  pub in_bucket-pair : (length one == 0) ≡ false → (length two == 0) ≡ false → is_here ≡ (pair_bucket_of mode buckets (fold_text mode one) (fold_text mode two) == bucket)
  in_bucket-pair first_there second_there =
      rw (cell_of-rows_of s column row rectangular named lt, cell_of-rows_of s second row rectangular second_named lt, first_there, second_there) refl

  -- a row one of whose two fields is empty is of none
  pub in_bucket-first_null : (length one == 0) ≡ true → is_here ≡ false
  in_bucket-first_null null = rw (cell_of-rows_of s column row rectangular named lt, cell_of-rows_of s second row rectangular second_named lt, null) refl

  pub in_bucket-second_null : (length two == 0) ≡ true → is_here ≡ false
  in_bucket-second_null null =
      rw (cell_of-rows_of s column row rectangular named lt, cell_of-rows_of s second row rectangular second_named lt, null) (none (not (length one == 0)))
    where
      none : (b : Bool) → ((b && false) && (pair_bucket_of mode buckets (fold_text mode one) (fold_text mode two) == bucket)) ≡ false
      none true = refl
      none false = refl

  -- tells whether a row of a bucket has a pair
  pub has_pair-in_bucket : (s_text t_text : List ℕ) → is_here ≡ true
      → has_pair mode (get_or s.names column []) (get_or s.names second []) s_text t_text (get_or (rows_of s) row []) ≡ (bytes_eq s_text (fold_text mode one) && bytes_eq t_text (fold_text mode two))
  has_pair-in_bucket s_text t_text reached = go (length one == 0) refl (length two == 0) refl where
    go : (a : Bool) → (length one == 0) ≡ a → (b : Bool) → (length two == 0) ≡ b
        → has_pair mode (get_or s.names column []) (get_or s.names second []) s_text t_text (get_or (rows_of s) row []) ≡ (bytes_eq s_text (fold_text mode one) && bytes_eq t_text (fold_text mode two))
    go true e b d = absurd (cc (sym (in_bucket-first_null e) ∙ reached))
    go false e true d = absurd (cc (sym (in_bucket-second_null d) ∙ reached))
    go false e false d = rw (cell_of-rows_of s column row rectangular named lt, cell_of-rows_of s second row rectangular second_named lt, e, d) refl
