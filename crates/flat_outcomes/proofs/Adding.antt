-- Rows and outcomes that are written after others.
use Rattle.std.proofs.Common.{◌≡◌, ◌<◌, ◌+◌, ℕ, suc, List, [], ◌∷◌, ◌++◌, get_or, take, map, length, refl, sym, ap, ◌∙◌}
use Rattle.std.proofs.lemmas.List.{length-map, map_push, map_more, take_more, append_assoc, append-nil, flat_map_more}
use Rattle.std.proofs.lemmas.List.Elements.{All-push}
use Rattle.std.specs.Prelude.{All}
use Rattle.flat_orders.specs.Written.{size_of}
use Rattle.load_memory.specs.Outcomes.{OutcomeOf}
use Rattle.load_memory.specs.Rows.{RowOf}
use Rattle.flat_outcomes.specs.Written.{width_after, texts_after, widths_of, texts_of, last_row, rows_in, faults_in, count_of, all_rows, row_texts, IsNarrow, AreWritten}
use Rattle.flat_outcomes.proofs.Writing.{IsFewOf}

-- ---- rows after rows
pub widths-append : (before : RowOf) (xs ys : List RowOf) → widths_of before (xs ++ ys) ≡ widths_of before xs ++ widths_of (last_row before xs) ys
unfolding widths_of last_row
widths-append before [] ys = refl
widths-append before (x ∷ xs) ys = ap (λ l. width_after before x ∷ l) (widths-append x xs ys)

pub texts-append : (before : RowOf) (xs ys : List RowOf) → texts_of before (xs ++ ys) ≡ texts_of before xs ++ texts_of (last_row before xs) ys
unfolding texts_of last_row
texts-append before [] ys = refl
texts-append before (x ∷ xs) ys =
    ap (λ l. texts_after before x ++ l) (texts-append x xs ys) ∙ sym (append_assoc (texts_after before x) (texts_of x xs) (texts_of (last_row x xs) ys))

pub last-append : (before : RowOf) (xs ys : List RowOf) → last_row before (xs ++ ys) ≡ last_row (last_row before xs) ys
unfolding last_row
last-append before [] ys = refl
last-append before (x ∷ xs) ys = last-append x xs ys

-- ---- one row more
module _ (before : RowOf) (xs : List RowOf) (last : RowOf) (is : last ≡ last_row before xs) (x : RowOf) where
  pub widths-push : widths_of before xs ++ width_after last x ∷ [] ≡ widths_of before (xs ++ x ∷ [])
  unfolding widths_of
  widths-push = rw is (sym (widths-append before xs (x ∷ [])))

  pub texts-push : texts_of before xs ++ texts_after last x ≡ texts_of before (xs ++ x ∷ [])
  unfolding texts_of
  texts-push = rw is (sym (texts-append before xs (x ∷ []) ∙ ap (λ l. texts_of before xs ++ l) (append-nil (texts_after (last_row before xs) x))))

  pub last-push : x ≡ last_row before (xs ++ x ∷ [])
  unfolding last_row
  last-push = sym (last-append before xs (x ∷ []))

-- ---- one outcome more
module _ (os : List OutcomeOf) (last : RowOf) (is : last ≡ last_row [] (all_rows os)) (o : OutcomeOf) where
  rows-more : all_rows os ++ rows_in o ≡ all_rows (os ++ o ∷ [])
  rows-more = flat_map_more rows_in [] os o

  pub last-more : last_row last (rows_in o) ≡ last_row [] (all_rows (os ++ o ∷ []))
  last-more = rw (is, ← rows-more) (sym (last-append [] (all_rows os) (rows_in o)))

  module _ (counts widths : List ℕ) (texts faults : List (List ℕ)) (w : AreWritten os counts widths texts faults) (few : IsFewOf o) where
    pub written-more : AreWritten (os ++ o ∷ []) (counts ++ count_of o ∷ []) (widths ++ widths_of last (rows_in o))
        (texts ++ texts_of last (rows_in o)) (faults ++ faults_in o)
    written-more = record {
      few = All-push IsFewOf os o w.few few;
      counts_are = rw (w.counts_are) (sym (map_push count_of os o));
      widths_are = rw (w.widths_are, is, ← rows-more) (sym (widths-append [] (all_rows os) (rows_in o)));
      texts_are = rw (w.texts_are, is, ← rows-more) (sym (texts-append [] (all_rows os) (rows_in o)));
      faults_are = rw (w.faults_are) (flat_map_more faults_in [] os o);
    }

-- ---- the next of a list
pub next : {X : Type 0} (xs : List X) (i : ℕ) (x : X) → i < length xs → x ≡ get_or xs i x → take (i + 1) xs ≡ take i xs ++ x ∷ []
next xs i x lt is = take_more xs i x lt ∙ ap (λ y. take i xs ++ y ∷ []) (sym is)

module _ (before : RowOf) (rows : List RowOf) (i : ℕ) (x : RowOf) (lt : i < length rows) (is : x ≡ get_or rows i x) (last : RowOf) (last-is : last ≡ last_row before (take i rows)) where
  pub widths-next : (old done : List ℕ) → done ≡ old ++ widths_of before (take i rows)
      → done ++ width_after last x ∷ [] ≡ old ++ widths_of before (take (i + 1) rows)
  widths-next old done e =
      rw (next rows i x lt is, ← widths-push before (take i rows) last last-is x, e) (append_assoc old (widths_of before (take i rows)) (width_after last x ∷ []))

  pub texts-next : (old done : List (List ℕ)) → done ≡ old ++ texts_of before (take i rows)
      → done ++ texts_after last x ≡ old ++ texts_of before (take (i + 1) rows)
  texts-next old done e =
      rw (next rows i x lt is, ← texts-push before (take i rows) last last-is x, e) (append_assoc old (texts_of before (take i rows)) (texts_after last x))

  pub narrow-next : All IsNarrow (take i rows) → IsNarrow x → All IsNarrow (take (i + 1) rows)
  narrow-next all here = rw (next rows i x lt is) (All-push IsNarrow (take i rows) x all here)

  pub last-next : x ≡ last_row before (take (i + 1) rows)
  last-next = rw (next rows i x lt is) (last-push before (take i rows) last last-is x)

module _ {X : Type 0} (f : X → OutcomeOf) (xs : List X) (i : ℕ) (x : X) (lt : i < length xs) (is : x ≡ get_or xs i x) where
  pub outcome-next : map f (take (i + 1) xs) ≡ map f (take i xs) ++ f x ∷ []
  outcome-next = rw (next xs i x lt is) (map_push f (take i xs) x)

-- ---- how many there are
pub length-widths : (before : RowOf) (rows : List RowOf) → length (widths_of before rows) ≡ length rows
unfolding widths_of
length-widths before [] = refl
length-widths before (r ∷ rs) = ap suc (length-widths r rs)

-- ---- texts of a row's columns
pub parts-next : (f : List ℕ × List ℕ → List ℕ) (row : RowOf) (i : ℕ) (t : List ℕ) → i < length row → t ≡ f (get_or row i ([], []))
    → (old done : List (List ℕ)) → done ≡ old ++ map f (take i row) → done ++ t ∷ [] ≡ old ++ map f (take (i + 1) row)
parts-next f row i t lt is old done e = rw (map_more f row i ([], []) lt, is, e) (append_assoc old (map f (take i row)) (f (get_or row i ([], [])) ∷ []))

-- the lengths of the buffers into which outcomes are written, and the number of bytes of their texts
pub sizes-of : (os : List OutcomeOf) (counts widths : List ℕ) (texts faults : List (List ℕ)) → AreWritten os counts widths texts faults
    → (length counts ≡ length os) × (length widths ≡ length (all_rows os)) × (length texts ≡ length (row_texts os)) × (size_of texts ≡ size_of (row_texts os))
sizes-of os counts widths texts faults w =
    (ap length w.counts_are ∙ length-map os count_of, ap length w.widths_are ∙ length-widths [] (all_rows os), ap length w.texts_are, ap size_of w.texts_are)
