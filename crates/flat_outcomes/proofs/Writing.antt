-- Buffers that were written say the outcomes that were given.
use Rattle.std.proofs.Common.{◌≡◌, ◌<◌, ℕ, Bool, true, false, List, [], ◌∷◌, ◌++◌, drop, map, length, refl, sym, ap, ◌∙◌, subst, arith}
use Rattle.std.proofs.lemmas.Bool.{ne_eqb}
use Rattle.std.proofs.lemmas.List.{take_at, drop_at, append_assoc, length-map}
use Rattle.std.proofs.lemmas.List.Elements.{All-append, All-head, All-tail, All-nil}
use Rattle.std.proofs.lemmas.Slice.Eq.{slice_eq-Decides, bytes_eq-Decides}
use Rattle.std.specs.Prelude.{All, ◌==◌}
use Rattle.load_memory.specs.Outcomes.{OutcomeOf, known, batch_fault, rows, key_fault}
use Rattle.load_memory.specs.Rows.{RowOf, paired}
use Rattle.flat_outcomes.specs.Said.{key_mark, batch_mark, same_mark, names_said, after_names, rows_said, outcome_said, outcomes_of, outcomes_said, rows_taken, faults_taken}
use Rattle.flat_outcomes.specs.Written.{names_of, fields_of, have_same_names, width_after, texts_after, widths_of, texts_of, rows_in, faults_in, count_of, all_rows, all_faults, IsNarrow, IsFew, AreWritten}

-- ---- rows
pub row-back : (row : RowOf) → paired (names_of row) (fields_of row) ≡ row
row-back [] = refl
row-back (p ∷ ps) = ap (λ l. p ∷ l) (row-back ps)

same-names : (one other : RowOf) → have_same_names one other ≡ true → names_of one ≡ names_of other
same-names one other e = (slice_eq-Decides bytes_eq-Decides (names_of one) (names_of other) (have_same_names one other) refl).0 e

-- says what is read of a row that was written after another
record IsBack (before row : RowOf) (more : List (List ℕ)) : Type 0 where
  names : names_said (names_of before) (width_after before row) (texts_after before row ++ more) ≡ names_of row
  fields : after_names (width_after before row) (texts_after before row ++ more) ≡ fields_of row ++ more

module _ (before row : RowOf) (more : List (List ℕ)) (narrow : IsNarrow row) where
  other-width : (length row == same_mark) ≡ false
  other-width = ne_eqb (length row) same_mark (λ e. absurd (omega (arith, narrow, e)))

  many : length (names_of row) ≡ length row
  many = length-map row (λ pair. pair.0)

  back-by : (b : Bool) → have_same_names before row ≡ b → IsBack before row more
  back-by true e = record { names = rw e (same-names before row e); fields = rw e refl }
  back-by false e = record {
    names = rw (e, other-width, append_assoc (names_of row) (fields_of row) more) (take_at (names_of row) (fields_of row ++ more) (length row) many);
    fields = rw (e, other-width, append_assoc (names_of row) (fields_of row) more) (drop_at (names_of row) (fields_of row ++ more) (length row) many);
  }

  back : IsBack before row more
  back = back-by (have_same_names before row) refl

  as-many : length (fields_of row) ≡ length (names_of row)
  as-many = length-map row (λ pair. pair.1) ∙ sym many

pub rows-back : (before : RowOf) (all : List RowOf) → All IsNarrow all → rows_said (names_of before) (widths_of before all) (texts_of before all) ≡ all
unfolding rows_said widths_of texts_of
rows-back before [] narrow = refl
rows-back before (r ∷ rs) narrow =
    let more = texts_of r rs in
    let here = All-head IsNarrow r rs narrow in
    let b = back before r more here in
    let same = as-many before r more here in
    rw (
      b.names,
      b.fields,
      take_at (fields_of r) more (length (names_of r)) same,
      drop_at (fields_of r) more (length (names_of r)) same,
      row-back r,
      rows-back r rs (All-tail IsNarrow r rs narrow),
    ) refl

-- ---- outcomes
abbrev pub IsFewOf : OutcomeOf → Type 0
IsFewOf o = IsFew (rows_in o)

few-narrow : (os : List OutcomeOf) → All IsFewOf os → All IsNarrow (all_rows os)
few-narrow [] few = All-nil IsNarrow
few-narrow (o ∷ os) few = All-append IsNarrow (rows_in o) (all_rows os) (All-head IsFewOf o os few).1 (few-narrow os (All-tail IsFewOf o os few))

-- says what is read of an outcome that was written before others
record IsTold (o : OutcomeOf) (all : List RowOf) (faults : List (List ℕ)) : Type 0 where
  outcome : outcome_said (count_of o) (rows_in o ++ all) (faults_in o ++ faults) ≡ o
  rows_left : drop (rows_taken (count_of o)) (rows_in o ++ all) ≡ all
  faults_left : drop (faults_taken (count_of o)) (faults_in o ++ faults) ≡ faults

told : (o : OutcomeOf) (all : List RowOf) (faults : List (List ℕ)) → IsFewOf o → IsTold o all faults
told (known (rows rs)) all faults few =
    let below : length rs < batch_mark = few.0 in
    let key : (length rs == key_mark) ≡ false = ne_eqb (length rs) key_mark (λ e. absurd (omega (arith, below, e))) in
    let batch : (length rs == batch_mark) ≡ false = ne_eqb (length rs) batch_mark (λ e. absurd (omega (arith, below, e))) in
    record {
      outcome = rw (key, batch, take_at rs all (length rs) refl) refl;
      rows_left = rw (key, batch) (drop_at rs all (length rs) refl);
      faults_left = rw (key, batch) refl;
    }
told (known (key_fault t)) all faults few = record { outcome = refl; rows_left = refl; faults_left = refl }
told (batch_fault t) all faults few = record { outcome = refl; rows_left = refl; faults_left = refl }

pub outcomes-back : (os : List OutcomeOf) → All IsFewOf os → outcomes_of (map count_of os) (all_rows os) (all_faults os) ≡ os
unfolding outcomes_of
outcomes-back [] few = refl
outcomes-back (o ∷ os) few =
    let t = told o (all_rows os) (all_faults os) (All-head IsFewOf o os few) in
    rw (t.outcome, t.rows_left, t.faults_left, outcomes-back os (All-tail IsFewOf o os few)) refl

-- buffers that are outcomes, written, say these outcomes
pub said-back : (os : List OutcomeOf) (counts widths : List ℕ) (texts faults : List (List ℕ)) → AreWritten os counts widths texts faults
    → outcomes_said counts widths texts faults ≡ os
said-back os counts widths texts faults w =
    rw (w.counts_are, w.widths_are, w.texts_are, w.faults_are, rows-back [] (all_rows os) (few-narrow os w.few)) (outcomes-back os w.few)

-- the outcomes that were written are those that the buffers say
pub written-said : (os : List OutcomeOf) (counts widths : List ℕ) (texts faults : List (List ℕ)) → AreWritten os counts widths texts faults
    → AreWritten (outcomes_said counts widths texts faults) counts widths texts faults
written-said os counts widths texts faults w = subst (λ l. AreWritten l counts widths texts faults) (sym (said-back os counts widths texts faults w)) w
