-- A text has one reading.
use Rattle.std.proofs.Common.{◌≡◌, ℕ, List, [], ◌∷◌, ◌++◌, length, Some, None, refl, sym, ap, subst, ◌∙◌, arith, inl, inr, ◌⊎◌, length-append}
use Rattle.std.proofs.lemmas.List.{append-nil, same_from_push}
use Rattle.csv.specs.Machine.{Read, next_record}
use Rattle.csv.specs.Reading.{Reached, default_config}
use Rattle.csv.specs.Records.{AllText}
use Rattle.csv.specs.declared.parser.State.{State}
use Rattle.csv.specs.declared.parser.State.TheVariants as st
use Rattle.load_memory.specs.Rows.{SheetOf}
use Rattle.csv_source.specs.Reading.{Record, Repeats, Fit, Lawful, Faulty, FailsAt, IsTableOf, FirstFault}
use Rattle.csv_source.specs.declared.fault.TableFault.{TableFault}
use Rattle.csv_source.specs.declared.fault.TableFault.TheVariants as fault

some-same : {X : Type 0} {x y : X} → Some x ≡ Some y → x ≡ y
some-same e = cc e

-- of two lists of records that are read from one place, the one begins with the other
abbrev Extends : State → List ℕ → List Record → List Record → State → List ℕ → Type 0
Extends s xs rs ts s2 ys = (rest : List Record) × (ts ≡ rs ++ rest) × Reached default_config s xs rest s2 ys

read-both : (s : State) (xs : List ℕ) (rs ts : List Record) (s2 s3 : State) (ys zs : List ℕ) → Reached default_config s xs rs s2 ys → Reached default_config s xs ts s3 zs
    → Extends s2 ys rs ts s3 zs ⊎ Extends s3 zs ts rs s2 ys
unfolding Reached
read-both s xs [] ts s2 s3 ys zs h k = inl (ts, refl, rw (← h.0, ← h.1) k)
read-both s xs (r ∷ rs) [] s2 s3 ys zs h k = inr (r ∷ rs, refl, rw (← k.0, ← k.1) h)
read-both s xs (r ∷ rs) (t ∷ ts) s2 s3 ys zs (p, e, is, h) (q, f, at, k) =
    let same : p ≡ q = some-same (sym e ∙ f) in
    let head : r ≡ t = is ∙ ap (λ (x : Read). x.0) same ∙ sym at in
    elim (read-both q.1 q.2 rs ts s2 s3 ys zs (rw same at h) k) [
      | inl (rest, more, on) ↦ inl (rest, rw (head, more) refl, on)
      | inr (rest, more, on) ↦ inr (rest, rw (head, more) refl, on)
    ]

-- after the last record there is none
at-end : (s : State) (xs : List ℕ) (rest : List Record) (s2 : State) (ys : List ℕ) → next_record default_config s [] [] xs ≡ None → Reached default_config s xs rest s2 ys → rest ≡ []
unfolding Reached
at-end s xs [] s2 ys none h = refl
at-end s xs (r ∷ rest) s2 ys none (p, e, is, h) = absurd (cc (sym e ∙ none))

-- a first record is read
has-first : (s : State) (xs : List ℕ) (before : List Record) (last : Record) (s2 : State) (ys : List ℕ) → next_record default_config s [] [] xs ≡ None → Reached default_config s xs (before ++ last ∷ []) s2 ys → ⊥
has-first s xs [] last s2 ys none h = absurd (cc (at-end s xs (last ∷ []) s2 ys none h))
has-first s xs (r ∷ before) last s2 ys none h = absurd (cc (at-end s xs (r ∷ (before ++ last ∷ [])) s2 ys none h))

fit-at : (head : Record) (rows : List Record) (r : Record) (rest : List Record) → Fit head ((rows ++ r ∷ []) ++ rest) → (length r ≡ length head) × AllText r
unfolding Fit
fit-at head [] r rest f = (f.0, f.1)
fit-at head (x ∷ rows) r rest f = fit-at head rows r rest f.2

-- says which fault a record has
abbrev HeaderWhich : Record → TableFault → Type 0
HeaderWhich head e = ((e ≡ fault.NotText) × ¬ (AllText head)) ⊎ ((e ≡ fault.DuplicateColumn) × AllText head × Repeats head)

header-which : (head : Record) (e : TableFault) → Faulty [] head e → HeaderWhich head e
header-which head fault.NotText f = inl (refl, f)
header-which head fault.DuplicateColumn f = inr (refl, f.0, f.1)
header-which head fault.NoHeader f = absurd f
header-which head fault.BadRecord f = absurd f
header-which head fault.TooManyRows f = absurd f
header-which head fault.NoSuchColumn f = absurd f
header-which head fault.ReadFault f = absurd f
header-which head fault.NoMemory f = absurd f

pub data RowWhich (head : Record) (rows : List Record) (r : Record) (e : TableFault) : Type 0 where
  bad : e ≡ fault.BadRecord → ¬ (length r ≡ length head) → RowWhich head rows r e
  not_text : e ≡ fault.NotText → length r ≡ length head → ¬ (AllText r) → RowWhich head rows r e
  too_many : e ≡ fault.TooManyRows → length r ≡ length head → AllText r → length rows ≡ 1000000 → RowWhich head rows r e

row-which : (head : Record) (rows : List Record) (r : Record) (e : TableFault) → Faulty (head ∷ rows) r e → RowWhich head rows r e
row-which head rows r fault.BadRecord f = bad refl f
row-which head rows r fault.NotText f = not_text refl f.0 f.1
row-which head rows r fault.TooManyRows f = too_many refl f.0 f.1 f.2
row-which head rows r fault.NoHeader f = absurd f
row-which head rows r fault.DuplicateColumn f = absurd f
row-which head rows r fault.NoSuchColumn f = absurd f
row-which head rows r fault.ReadFault f = absurd f
row-which head rows r fault.NoMemory f = absurd f

same-header : (head : Record) (d e : TableFault) → HeaderWhich head d → HeaderWhich head e → d ≡ e
same-header head d e (inl f) (inl g) = f.0 ∙ sym g.0
same-header head d e (inl f) (inr g) = absurd (f.1 g.1)
same-header head d e (inr f) (inl g) = absurd (g.1 f.1)
same-header head d e (inr f) (inr g) = f.0 ∙ sym g.0

same-row : (head : Record) (rows : List Record) (r : Record) (d e : TableFault) → RowWhich head rows r d → RowWhich head rows r e → d ≡ e
same-row head rows r d e (bad p a) (bad q b) = p ∙ sym q
same-row head rows r d e (bad p a) (not_text q b x) = absurd (a b)
same-row head rows r d e (bad p a) (too_many q b x n) = absurd (a b)
same-row head rows r d e (not_text p a x) (bad q b) = absurd (b a)
same-row head rows r d e (not_text p a x) (not_text q b y) = p ∙ sym q
same-row head rows r d e (not_text p a x) (too_many q b y n) = absurd (x y)
same-row head rows r d e (too_many p a x n) (bad q b) = absurd (b a)
same-row head rows r d e (too_many p a x n) (not_text q b y) = absurd (y x)
same-row head rows r d e (too_many p a x n) (too_many q b y m) = p ∙ sym q

same-faulty : (before : List Record) (last : Record) (d e : TableFault) → Faulty before last d → Faulty before last e → d ≡ e
same-faulty [] last d e f g = same-header last d e (header-which last d f) (header-which last e g)
same-faulty (head ∷ rows) last d e f g = same-row head rows last d e (row-which head rows last d f) (row-which head rows last e g)

-- a record with a fault is in no lawful list
unlawful-header : (head : Record) (rest : List Record) (e : TableFault) → Lawful (head ∷ rest) → HeaderWhich head e → ⊥
unlawful-header head rest e h (inl f) = f.1 h.0.0
unlawful-header head rest e h (inr f) = h.0.1 f.2

unlawful-row : (head : Record) (rows : List Record) (r : Record) (rest : List Record) (e : TableFault) → Lawful (head ∷ ((rows ++ r ∷ []) ++ rest)) → RowWhich head rows r e → ⊥
unlawful-row head rows r rest e h (bad p a) = a (fit-at head rows r rest h.1).0
unlawful-row head rows r rest e h (not_text p a x) = x (fit-at head rows r rest h.1).1
unlawful-row head rows r rest e h (too_many p a x n) = absurd (omega (arith, h.2, n, length-append (rows ++ r ∷ []) rest, length-append rows (r ∷ [])))

unlawful : (before : List Record) (last : Record) (rest : List Record) (e : TableFault) → Lawful ((before ++ last ∷ []) ++ rest) → Faulty before last e → ⊥
unlawful [] last rest e h f = unlawful-header last rest e h (header-which last e f)
unlawful (head ∷ rows) last rest e h f = unlawful-row head rows last rest e h (row-which head rows last e f)

fails-not : (text : List ℕ) (t : SheetOf) (e : TableFault) → IsTableOf text t → FailsAt text e → ⊥
fails-not text t e table fails =
    let (s2, ys, reached, none) = table.records in
    let (s3, zs, begun) = fails.begins in
    elim (read-both st.StartRecord text (fails.before ++ fails.last ∷ []) (t.names ∷ t.rows) s3 s2 zs ys begun reached) [
      | inl (rest, more, on) ↦ unlawful fails.before fails.last rest e (subst Lawful more table.lawful) fails.faulty
      | inr (rest, more, on) ↦
          let over = at-end s2 ys rest s3 zs none on in
          let all : t.names ∷ t.rows ≡ (fails.before ++ fails.last ∷ []) ++ [] = sym (append-nil (t.names ∷ t.rows)) ∙ sym (rw over at more) ∙ sym (append-nil (fails.before ++ fails.last ∷ [])) in
          unlawful fails.before fails.last [] e (subst Lawful all table.lawful) fails.faulty
    ]

pub same-table : (text : List ℕ) (s t : SheetOf) → IsTableOf text s → IsTableOf text t → s ≡ t
same-table text s t a b =
    let (s2, ys, reached, none) = a.records in
    let (s3, zs, begun, over) = b.records in
    let same : s.names ∷ s.rows ≡ t.names ∷ t.rows = elim (read-both st.StartRecord text (s.names ∷ s.rows) (t.names ∷ t.rows) s2 s3 ys zs reached begun) [
      | inl (rest, more, on) ↦ sym (rw (at-end s2 ys rest s3 zs none on, append-nil (s.names ∷ s.rows)) at more)
      | inr (rest, more, on) ↦ rw (at-end s3 zs rest s2 ys over on, append-nil (t.names ∷ t.rows)) at more
    ] in
    let names : s.names ≡ t.names = cc same in
    let rows : s.rows ≡ t.rows = cc same in
    rw (names, rows) refl

-- a list that ends in one more is empty after it, or has its own last
ends : (before after : List Record) (last : Record) (rest : List Record) → after ++ last ∷ [] ≡ before ++ rest → (rest ≡ []) ⊎ ((more : List Record) × (after ≡ before ++ more))
ends before after last [] e = inl refl
ends [] after last (x ∷ rest) e = inr (after, refl)
ends (b ∷ before) [] last (x ∷ rest) e = absurd (omega (arith, ap length e, length-append before (x ∷ rest)))
ends (b ∷ before) (a ∷ after) last (x ∷ rest) e = elim (ends before after last (x ∷ rest) (cc e)) [
  | inl none ↦ absurd (cc none)
  | inr (more, is) ↦ inr (more, (let head : a ≡ b = cc e in rw (head, is) refl))
]

-- two failing lists of which one begins with the other
fails-same : (text : List ℕ) (d e : TableFault) (f : FailsAt text d) (g : FailsAt text e) (rest : List Record) → g.before ++ g.last ∷ [] ≡ (f.before ++ f.last ∷ []) ++ rest → d ≡ e
fails-same text d e f g rest more = elim (ends (f.before ++ f.last ∷ []) g.before g.last rest more) [
  | inl none ↦
      let whole : g.before ++ g.last ∷ [] ≡ f.before ++ f.last ∷ [] = rw (none, append-nil (f.before ++ f.last ∷ [])) at more in
      let (before, last) = same_from_push g.before f.before g.last f.last whole in
      same-faulty f.before f.last d e f.faulty (rw (before, last) at g.faulty)
  | inr (over, is) ↦ absurd (unlawful f.before f.last over d (subst Lawful is g.lawful) f.faulty)
]

both-fail : (text : List ℕ) (d e : TableFault) → FailsAt text d → FailsAt text e → d ≡ e
both-fail text d e f g =
    let (s2, ys, first) = f.begins in
    let (s3, zs, second) = g.begins in
    elim (read-both st.StartRecord text (f.before ++ f.last ∷ []) (g.before ++ g.last ∷ []) s2 s3 ys zs first second) [
      | inl (rest, more, on) ↦ fails-same text d e f g rest more
      | inr (rest, more, on) ↦ sym (fails-same text e d g f rest more)
    ]

-- a first fault is of the first record that is missing, or of one that is there
abbrev IsOne : List ℕ → TableFault → Type 0
IsOne text e = ((e ≡ fault.NoHeader) × (next_record default_config st.StartRecord [] [] text ≡ None)) ⊎ FailsAt text e

is-one : (text : List ℕ) (e : TableFault) → FirstFault text e → IsOne text e
is-one text fault.NoHeader f = inl (refl, f)
is-one text fault.NotText f = inr f
is-one text fault.DuplicateColumn f = inr f
is-one text fault.BadRecord f = inr f
is-one text fault.TooManyRows f = inr f
is-one text fault.ReadFault f = absurd f
is-one text fault.NoMemory f = absurd f
is-one text fault.NoSuchColumn f = absurd f

none-and-fails : (text : List ℕ) (e : TableFault) → next_record default_config st.StartRecord [] [] text ≡ None → FailsAt text e → ⊥
none-and-fails text e none f =
    let (s2, ys, begun) = f.begins in
    has-first st.StartRecord text f.before f.last s2 ys none begun

pub same-fault : (text : List ℕ) (d e : TableFault) → FirstFault text d → FirstFault text e → d ≡ e
same-fault text d e f g = go (is-one text d f) (is-one text e g) where
  go : IsOne text d → IsOne text e → d ≡ e
  go (inl a) (inl b) = a.0 ∙ sym b.0
  go (inl a) (inr b) = absurd (none-and-fails text e a.1 b)
  go (inr a) (inl b) = absurd (none-and-fails text d b.1 a)
  go (inr a) (inr b) = both-fail text d e a b

pub table-or-fault : (text : List ℕ) (t : SheetOf) (e : TableFault) → IsTableOf text t → FirstFault text e → ⊥
table-or-fault text t e table f = go (is-one text e f) where
  go : IsOne text e → ⊥
  go (inl a) =
      let (s2, ys, reached, none) = table.records in
      absurd (cc (at-end st.StartRecord text (t.names ∷ t.rows) s2 ys a.1 reached))
  go (inr a) = fails-not text t e table a
