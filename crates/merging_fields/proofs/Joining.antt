-- Lemmas on what is reported of a document whose fields have been compared under their numbers.
use Rattle.std.proofs.Common.{◌≡◌, ◌∙◌, sym, ap, refl, ℕ, zero, suc, ◌+◌, ◌<◌, ◌≤◌, Bool, true, false, ◌||◌, ◌&&◌, ◌==◌, cond, List, [], ◌∷◌, ◌++◌, length, map, drop, get_or, append_assoc, Option, Some, None, arith}
use Rattle.std.specs.Prelude.{slice_get, slice_index_or, filter, filter_map, find, fold}
use Rattle.std.specs.List.{list_any}
use Rattle.std.proofs.lemmas.List.Elements.{filter-append}
use Rattle.std.proofs.lemmas.Bool.{both_ways, or_left, or_right, eq-eqb}
use Rattle.gq_parser.specs.Tree.{Below, nothing_below, below}
use Rattle.rules_parts.specs.Broken.{BrokenOf, with_broken, with_broken_if, earliest}
use Rattle.rules_parts.specs.Parts.{PartsOf}
use Rattle.merging_pairs.specs.declared.field.Field as table
use Rattle.merging_pairs.specs.Merging.{Fields, Merges}
use Rattle.merging_pairs.specs.Clashes.{key_clashes, first_clash, has_clash}
use Rattle.merging_pairs.specs.Numbered as numbered
use Rattle.merging_pairs.specs.Numbered.{is_in}
use Rattle.merging_pairs.specs.Renumbered.{IsRenumbered}
use Rattle.merging_pairs.specs.Sets.{has}
use Rattle.merging_pairs.specs.Table.{fail, entry, Tells, TellsAll}
use Rattle.merging_members.specs.Members.{SetOf, sets_of, members_of_fragment, members_below, count_below, count_operations, count_fragments}
use Rattle.merging_members.specs.SetMembers.{to, clash, is_clashing, is_key}
use Rattle.merging_members.proofs.Entering.{drop-next}
use Rattle.merging_members.proofs.Below.{AllUnder, AreFields, in-under, spread-under, document-fields}
use Rattle.merging_fields.specs.Compare.{have_one_key}
use Rattle.merging_fields.specs.Members.{members_at, fields_of}
use Rattle.merging_fields.specs.Numbered.{AreNumbered, IsInverse, AreInside}
use Rattle.merging_fields.specs.FieldSelectionMerging.{IsMerging, key_of}
use Rattle.merging_fields.specs.Reports.{report_of_set, reports_of_sets}
use Rattle.merging_fields.proofs.Classes.{same-key}
use Rattle.merging_fields.proofs.Twins.{there, at-is, test-is, renumbers}
use Rattle.merging_fields.proofs.Telling.{report-broken, report-clash}

-- ---- tests of lists

any-map : (f : ℕ → ℕ) (test : ℕ → Bool) (ms : List ℕ) → list_any test (map f ms) ≡ list_any (λ a. test (f a)) ms
any-map f test [] = refl
any-map f test (m ∷ ms) = ap (λ (b : Bool). test (f m) || b) (any-map f test ms)

any-on : (f g : ℕ → Bool) (ms : List ℕ) → ((a : ℕ) → is_in ms a ≡ true → f a ≡ g a) → list_any f ms ≡ list_any g ms
any-on f g [] same = refl
any-on f g (m ∷ ms) same = rw (same m (or_left (m == m) (is_in ms m) (eq-eqb m m refl)), any-on f g ms (λ a e. same a (or_right (a == m) (is_in ms a) e))) refl

find-on : (f g : ℕ → Bool) (ms : List ℕ) → ((a : ℕ) → is_in ms a ≡ true → f a ≡ g a) → find f ms ≡ find g ms
find-on f g [] same = refl
find-on f g (m ∷ ms) same = rw (same m (or_left (m == m) (is_in ms m) (eq-eqb m m refl)), find-on f g ms (λ a e. same a (or_right (a == m) (is_in ms a) e))) refl

any-none : (f g : ℕ → Bool) (ms : List ℕ) → ((a : ℕ) → g a ≡ false → f a ≡ false) → list_any g ms ≡ false → list_any f ms ≡ false
any-none f g [] weaker e = refl
any-none f g (m ∷ ms) weaker e = go (g m) refl e (any-none f g ms weaker)
  where
    go : (t : Bool) → g m ≡ t → (t || list_any g ms) ≡ false → (list_any g ms ≡ false → list_any f ms ≡ false) → (f m || list_any f ms) ≡ false
    go true h i rest = absurd (both_ways true i refl)
    go false h i rest = rw (weaker m h) (rest i)

find-none : (test : ℕ → Bool) (ms : List ℕ) → ((a : ℕ) → test a ≡ false) → find test ms ≡ None
find-none test [] none = refl
find-none test (m ∷ ms) none = rw (none m) (find-none test ms none)

and-none : (s t : Bool) → t ≡ false → (s && t) ≡ false
and-none true t e = e
and-none false t e = refl

-- ---- sets without a clash say nothing

unclashing : (one_key clashes : ℕ → ℕ → Bool) (ms : List ℕ) → has_clash clashes ms ≡ false → first_clash one_key clashes ms ≡ None
unclashing one_key clashes ms e =
    find-none (key_clashes one_key clashes ms) ms (λ f. any-none (λ a. one_key a f && list_any (clashes a) ms) (λ a. list_any (clashes a) ms) ms (λ a h. and-none (one_key a f) (list_any (clashes a) ms) h) e)

kept : (f : SetOf → Option BrokenOf) (test : SetOf → Bool) → ((s : SetOf) → test s ≡ false → f s ≡ None) → (sets : List SetOf) → filter_map f (filter test sets) ≡ filter_map f sets
kept f test none [] = refl
kept f test none (s ∷ sets) = go (test s) refl (kept f test none sets)
  where
    with-first : (o : Option BrokenOf) → f s ≡ o → (xs ys : List SetOf) → filter_map f xs ≡ filter_map f ys → filter_map f (s ∷ xs) ≡ filter_map f (s ∷ ys)
    with-first None e xs ys same = rw e same
    with-first (Some b) e xs ys same = rw e (ap (λ (bs : List BrokenOf). b ∷ bs) same)

    go : (t : Bool) → test s ≡ t → filter_map f (filter test sets) ≡ filter_map f sets → filter_map f (filter test (s ∷ sets)) ≡ filter_map f (s ∷ sets)
    go true e same = rw e (with-first (f s) refl (filter test sets) sets same)
    go false e same = rw (e, none s e) same

pub fields-kept : (n : ℕ) (test : SetOf → Bool) (sets : List SetOf) → AreFields n sets → AreFields n (filter test sets)
fields-kept n test [] us = tt
fields-kept n test (s ∷ sets) us = go (test s) (fields-kept n test sets us.1)
  where
    go : (t : Bool) → AreFields n (filter test sets) → AreFields n (cond t (s ∷ filter test sets) (filter test sets))
    go true rest = (us.0, rest)
    go false rest = rest

-- ---- the earliest of what is reported

pub report-next : (f : SetOf → Option BrokenOf) (kept : Option BrokenOf) (s : SetOf) (sets : List SetOf) → fold with_broken kept (filter_map f (s ∷ sets)) ≡ fold with_broken (with_broken_if kept (f s)) (filter_map f sets)
report-next f kept s sets = go (f s) refl
  where
    go : (o : Option BrokenOf) → f s ≡ o → fold with_broken kept (filter_map f (s ∷ sets)) ≡ fold with_broken (with_broken_if kept (f s)) (filter_map f sets)
    go None e = rw e refl
    go (Some b) e = rw e refl

-- ---- what rests on the numbers

pub got-below : {A : Type 0} (ys : List A) (i : ℕ) (y : A) → slice_get ys i ≡ Some y → i < length ys
got-below [] i y e = cc
got-below (z ∷ ys) zero y e = omega arith
got-below (z ∷ ys) (suc i) y e = let rest = got-below ys i y e in omega (arith, rest)

module _ (p : PartsOf) (numbers order : List ℕ) (xs : List table.Field) (rows : List (List ℕ))
    (are : AreNumbered p numbers (members_of_fragment p.document) order xs)
    (inverse : IsInverse order numbers (length order)) (whole : length order ≡ length p.fields) (inside : AreInside p.fields)
    (counted : count_operations p.document.operations + count_fragments p.document.fragments ≡ length p.fields)
    (len : length xs ≡ length order) (decided : TellsAll (Merges (numbered.fields_of xs)) (numbered.fields_of xs) (length xs) rows) where
  abbrev pub n : ℕ
  n = length p.fields

  abbrev pub D : Fields ℕ
  D = fields_of p

  abbrev pub E : Fields ℕ
  E = numbered.fields_of xs

  most : count_operations p.document.operations + count_fragments p.document.fragments ≤ n
  most = omega (arith, counted)

  stands : IsInverse order numbers n
  stands a h = inverse a (omega (arith, whole, h))

  placed : (a : ℕ) → a < n → to numbers a < n
  placed a h = let g = got-below order (to numbers a) a (stands a h) in omega (arith, whole, g)

  below-under : (k : ℕ) (b : Below) → k + count_below b ≤ n → AllUnder n (members_below (members_of_fragment p.document) k b)
  below-under k nothing_below le = λ c e. absurd (both_ways false refl e)
  below-under k (below s) le = in-under n (members_of_fragment p.document) (spread-under n p.document most) k s le

  known : (a c : ℕ) → a < n → is_in (members_at p a) c ≡ true → c < n
  known a c h e =
      let f = there p.fields a h in
      let own : members_at p a ≡ members_below (members_of_fragment p.document) (a + 1) f.0.below = at-is (λ g. members_below (members_of_fragment p.document) (a + 1) g.below) [] p.fields a f.0 f.1 in
      below-under (a + 1) f.0.below (inside a f.0 f.1) c (ap (λ (ms : List ℕ). is_in ms c) (sym own) ∙ e)

  renumbered : IsRenumbered D E n (to numbers) (λ i. slice_index_or order i 0) (members_at p)
  renumbered = renumbers p numbers order xs are stands placed known

  pub reflexive : (a : ℕ) → a < n → D.one_key a a ≡ true
  reflexive a h = let f = there p.fields a h in test-is have_one_key p.fields a a f.0 f.0 f.1 f.1 ∙ same-key.own f.0

  tells : (a b : ℕ) → a < n → b < n → Tells (Merges D) D a b (clash rows numbers a b)
  tells = report-clash D E n numbers (λ i. slice_index_or order i 0) (members_at p) rows renumbered (λ c d hc hd. decided c d (omega (arith, len, whole, hc)) (omega (arith, len, whole, hd)))

  pub sets-under : AreFields n (sets_of p.document)
  sets-under = document-fields n p.document most

  key-same : (ms : List ℕ) → AllUnder n ms → (f : ℕ) → f < n → key_clashes E.one_key (fail rows) (map (to numbers) ms) (to numbers f) ≡ key_clashes D.one_key (clash rows numbers) ms f
  key-same ms us f h =
      any-map (to numbers) (λ a. E.one_key a (to numbers f) && list_any (fail rows a) (map (to numbers) ms)) ms
      ∙ any-on (λ a. E.one_key (to numbers a) (to numbers f) && list_any (fail rows (to numbers a)) (map (to numbers) ms)) (λ a. D.one_key a f && list_any (clash rows numbers a) ms) ms
      (λ a e. rw (renumbered.one_key a f (us a e) h, any-map (to numbers) (fail rows (to numbers a)) ms) refl)

  -- the first of the keys that are found is the first that clashes
  pub first-same : (ms keys : List ℕ) → AllUnder n ms → ((f : ℕ) → f < length xs → has keys f ≡ key_clashes E.one_key (fail rows) (map (to numbers) ms) f)
      → find (is_key keys numbers) ms ≡ first_clash D.one_key (clash rows numbers) ms
  first-same ms keys us is =
      find-on (is_key keys numbers) (key_clashes D.one_key (clash rows numbers) ms) ms
      (λ f e. let lt = placed f (us f e) in is (to numbers f) (omega (arith, len, whole, lt)) ∙ key-same ms us f (us f e))

  pub is-reported : IsMerging p (earliest (reports_of_sets D.one_key (clash rows numbers) (key_of p) (filter (is_clashing rows numbers) (sets_of p.document))))
  is-reported = (
    reports_of_sets D.one_key (clash rows numbers) (key_of p) (sets_of p.document),
    report-broken D n (clash rows numbers) (key_of p) reflexive tells (sets_of p.document) sets-under,
    ap earliest (kept (report_of_set D.one_key (clash rows numbers) (key_of p)) (is_clashing rows numbers) (λ s e. rw (unclashing D.one_key (clash rows numbers) s.members e) refl) (sets_of p.document)),
  )

-- ---- sets one after another

pub more-sets : (test : SetOf → Bool) (old new here rest : List SetOf) → new ≡ old ++ filter test here → new ++ filter test rest ≡ old ++ filter test (here ++ rest)
more-sets test old new here rest e =
    ap (λ (ss : List SetOf). ss ++ filter test rest) e
    ∙ (append_assoc old (filter test here) (filter test rest) ∙ ap (λ (ss : List SetOf). old ++ ss) (sym (filter-append test here rest)))

-- a row without any field leaves the rows without any
pub blank-more : (rows : List (List ℕ)) (r : List ℕ) → ((i : ℕ) → has r i ≡ false) → ((b a : ℕ) → entry rows b a ≡ false) → (b a : ℕ) → entry (rows ++ r ∷ []) b a ≡ false
blank-more [] r none blank zero a = none a
blank-more [] r none blank (suc b) a = blank b a
blank-more (x ∷ rows) r none blank zero a = blank zero a
blank-more (x ∷ rows) r none blank (suc b) a = blank-more rows r none (λ c d. blank (suc c) d) b a

-- the element that is read at a place
pub got-read : {A B : Type 0} (v : A → B) (xs : List A) (i : ℕ) (x : A) (y : B) → i < length xs → x ≡ get_or xs i x → slice_get (map v xs) i ≡ Some y → y ≡ v x
got-read v [] i x y lt is e = absurd (omega (arith, lt))
got-read v (z ∷ xs) zero x y lt is e = let there : v z ≡ y = cc in sym there ∙ ap v (sym is)
got-read v (z ∷ xs) (suc i) x y lt is e = got-read v xs i x y (omega (arith, lt)) is e

pub next-of : {A B : Type 0} (v : A → B) (xs : List A) (i : ℕ) (x : A) → i < length xs → x ≡ get_or xs i x → map v (drop i xs) ≡ v x ∷ map v (drop (i + 1) xs)
next-of v xs i x lt is = ap (map v) (drop-next xs xs i x refl lt is)

pub length-more : {A : Type 0} (xs : List A) (x : A) → length (xs ++ x ∷ []) ≡ length xs + 1
length-more [] x = refl
length-more (y ∷ xs) x = let rest = length-more xs x in omega (arith, rest)
