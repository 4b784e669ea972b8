-- The table tells which pairs break the definition.
use Rattle.std.proofs.Common.{◌≡◌, ◌≢◌, ℕ, zero, suc, ◌<◌, ◌≤◌, ◌+◌, Bool, true, false, not, ◌||◌, ◌&&◌, ◌==◌, List, [], ◌∷◌, ◌++◌, length, get_or, arith, refl, sym, ap, ◌∙◌, ◌⊎◌, inl, inr}
use Rattle.std.proofs.lemmas.List.{get_or_past, get_or_append_left, get_or_push, length-append}
use Rattle.std.proofs.lemmas.Bool.{cases_lt, cases_eq, or_cases, or_parts, or_left, or_right, and_parts, and_cases, both_ways, cases_Bool, eqb-true, eq-eqb, ne_eqb}
use Rattle.merging_pairs.specs.Sets.{has, Common, Meets}
use Rattle.merging_pairs.specs.Merging.{Fields, IsPair, joined}
use Rattle.merging_pairs.specs.Numbered.{at, test_at, have_one_key, are_alike, may_meet, do_agree, fields_of}
use Rattle.merging_pairs.specs.declared.field.Field.{Field}
use Rattle.merging_pairs.specs.Table.{row, entry, fail, IsBelow, Tells, TellsAll, Found, FailsWith, AreMarks, TestsJoined, TestsPair, KnowsInner, Holds, fails_itself, asks_members, fails_with}
use Rattle.merging_pairs.specs.declared.recursion.MergeRecursion.{MergeRecursion}
use Rattle.merging_pairs.proofs.MergeLaws.{Laws, IsSymmetric}
use Rattle.merging_pairs.proofs.Bits.{has-empty, or-false}

pub entry-within : (rows : List (List ℕ)) (c d : ℕ) → entry rows c d ≡ true → c < length rows
entry-within rows c d e =
    elim (cases_lt c (length rows)) [
      | inl inside ↦ inside
      | inr past ↦ absurd (both_ways (entry rows c d) (ap (λ r. has r d) (get_or_past rows c [] past) ∙ has-empty d) e)
    ]

pub fail-swap : (rows : List (List ℕ)) (c d : ℕ) → fail rows c d ≡ true → fail rows d c ≡ true
fail-swap rows c d e =
    elim (or_cases (entry rows c d) (entry rows d c) e) [
      | inl h ↦ or_right (entry rows d c) (entry rows c d) h
      | inr h ↦ or_left (entry rows d c) (entry rows c d) h
    ]

pub marks-all : (rows : List (List ℕ)) (members marks : List ℕ) → ((c : ℕ) → has members c ≡ true → c < length rows)
    → ((c e : ℕ) → e < length rows → has members e ≡ true → entry rows e c ≡ true → has marks c ≡ true)
    → ((c : ℕ) → c < length rows → Common (row rows c) members → has marks c ≡ true)
    → (c d : ℕ) → has members d ≡ true → fail rows c d ≡ true → has marks c ≡ true
marks-all rows members marks within later earlier c d m e =
    elim (or_cases (entry rows c d) (entry rows d c) e) [
      | inl h ↦ earlier c (entry-within rows c d h) (record { place = d; first = h; second = m })
      | inr h ↦ later c d (within d m) m h
    ]

-- ---- a row more

row-push : (rows : List (List ℕ)) (new : List ℕ) (b : ℕ) → b < length rows → row (rows ++ new ∷ []) b ≡ row rows b
row-push rows new b h = get_or_append_left rows (new ∷ []) [] b h

entry-push : (rows : List (List ℕ)) (new : List ℕ) (c d : ℕ) → c < length rows → entry (rows ++ new ∷ []) c d ≡ entry rows c d
entry-push rows new c d h = ap (λ r. has r d) (row-push rows new c h)

entry-pushed : (rows : List (List ℕ)) (new : List ℕ) (b d : ℕ) → length rows ≡ b → entry (rows ++ new ∷ []) b d ≡ has new d
entry-pushed rows new b d len = ap (λ r. has r d) (get_or_push rows new [] b len)

fail-push : (rows : List (List ℕ)) (new : List ℕ) (c d : ℕ) → c < length rows → d < length rows → fail (rows ++ new ∷ []) c d ≡ fail rows c d
fail-push rows new c d hc hd = rw (entry-push rows new c d hc, entry-push rows new d c hd) refl

pub below-push : (rows : List (List ℕ)) (new : List ℕ) (n : ℕ) → length rows ≡ n → IsBelow rows → ((a : ℕ) → has new a ≡ true → a < n) → IsBelow (rows ++ new ∷ [])
below-push rows new n len below last b a e =
    elim (cases_lt b n) [
      | inl earlier ↦ below b a (sym (entry-push rows new b a (omega arith)) ∙ e)
      | inr late ↦
          let within = entry-within (rows ++ new ∷ []) b a e in
          let here : b ≡ n = omega (arith, within, length-append {A = List ℕ}) in
          let lt = last a (sym (entry-pushed rows new n a len) ∙ (rw (← here) e)) in
          omega arith
    ]

-- the entry of the new row at an earlier field
fail-pushed : (rows : List (List ℕ)) (new : List ℕ) (n a : ℕ) → length rows ≡ n → IsBelow rows → a < n → fail (rows ++ new ∷ []) a n ≡ has new a
fail-pushed rows new n a len below lt =
    let old : entry (rows ++ new ∷ []) a n ≡ false =
    entry-push rows new a n (omega arith) ∙ elim (cases_Bool (entry rows a n)) [ inl e ↦ absurd (let h = below a n e in omega arith) | inr e ↦ e ] in
    rw (old, entry-pushed rows new n a len) refl

-- ---- the step

-- the two fields of a pair may stand in either order
tells-swap : (P : ℕ → ℕ → Type 0) (D : Fields ℕ) (a b : ℕ) (s t : Bool) → ((c d : ℕ) → D.one_key c d ≡ D.one_key d c) → ((c d : ℕ) → P c d → P d c) → s ≡ t → Tells P D a b s → Tells P D b a t
tells-swap P D a b s t keys swap e decided = rw (← e) (record {
  apart = λ f same. decided.apart f (sym same);
  one_key = λ f. keys b a ∙ decided.one_key f;
  breaks = λ f p. decided.breaks f (swap b a p);
  keeps = λ f ne k. swap a b (decided.keeps f (λ same. ne (sym same)) (keys a b ∙ k));
})

fail-comm : (rows : List (List ℕ)) (c d : ℕ) → fail rows c d ≡ fail rows d c
fail-comm rows c d =
    elim (cases_Bool (fail rows c d)) [
      | inl e ↦ e ∙ sym (fail-swap rows c d e)
      | inr e ↦ elim (cases_Bool (fail rows d c)) [ inl h ↦ absurd (both_ways (fail rows c d) e (fail-swap rows d c h)) | inr h ↦ e ∙ sym h ]
    ]

module _ (rule : MergeRecursion) (D : Fields ℕ) (n : ℕ) (shapes rows : List (List ℕ)) (b : ℕ) (members-b marks inner : List ℕ)
    (enters-b : (c : ℕ) → D.enters b c ≡ has members-b c) (marked : AreMarks rows (has members-b) marks) (known : KnowsInner D rows inner (b + 1)) where
  module _ (a : ℕ) (lt : a < b) (members-a : List ℕ) (enters-a : (c : ℕ) → D.enters a c ≡ has members-a c) where
    -- a pair among the joined members
    joined-found : (t : Bool) → TestsJoined marks inner members-a a b t → t ≡ true → Found rows (joined D a b) (joined D a b)
    joined-found t test e = go (test.found e)
      where
        own : (x : ℕ) → Found rows (D.enters x) (D.enters x) → ((c : ℕ) → D.enters x c ≡ true → joined D a b c ≡ true) → Found rows (joined D a b) (joined D a b)
        own x f into = record { one = f.one; other = f.other; first = into f.one f.first; second = into f.other f.second; fails = f.fails }

        cross : (m : Common marks members-a) → FailsWith rows m.place (has members-b) → Found rows (joined D a b) (joined D a b)
        cross m f = record {
          one = m.place;
          other = f.other;
          first = or_left (D.enters a m.place) (D.enters b m.place) (enters-a m.place ∙ m.second);
          second = or_right (D.enters a f.other) (D.enters b f.other) (enters-b f.other ∙ f.member);
          fails = f.fails;
        }

        go : (has inner a ≡ true) ⊎ ((has inner b ≡ true) ⊎ Common marks members-a) → Found rows (joined D a b) (joined D a b)
        go (inl h) = own a (known.only a h) (λ c e. or_left (D.enters a c) (D.enters b c) e)
        go (inr (inl h)) = own b (known.only b h) (λ c e. or_right (D.enters a c) (D.enters b c) e)
        go (inr (inr m)) = cross m (marked.only m.place m.first)

    joined-none : (t : Bool) → TestsJoined marks inner members-a a b t → t ≡ false → (c d : ℕ) → joined D a b c ≡ true → joined D a b d ≡ true → fail rows c d ≡ true → ⊥
    joined-none t test e c d hc hd fails = go (or_cases (D.enters a c) (D.enters b c) hc) (or_cases (D.enters a d) (D.enters b d) hd)
      where
        not-a : has inner a ≡ false
        not-a = (test.none e).0

        not-b : has inner b ≡ false
        not-b = (test.none e).1

        crossed : (x y : ℕ) → D.enters a x ≡ true → D.enters b y ≡ true → fail rows x y ≡ true → ⊥
        crossed x y hx hy f = (test.none e).2 (record { place = x; first = marked.all x y (sym (enters-b y) ∙ hy) f; second = sym (enters-a x) ∙ hx })

        go : (D.enters a c ≡ true) ⊎ (D.enters b c ≡ true) → (D.enters a d ≡ true) ⊎ (D.enters b d ≡ true) → ⊥
        go (inl p) (inl q) = both_ways (has inner a) not-a (known.all a (omega arith) (record { one = c; other = d; first = p; second = q; fails = fails }))
        go (inr p) (inr q) = both_ways (has inner b) not-b (known.all b (omega arith) (record { one = c; other = d; first = p; second = q; fails = fails }))
        go (inl p) (inr q) = crossed c d p q fails
        go (inr p) (inl q) = crossed d c q p (fail-swap rows c d fails)

    module _ (laws : Laws (Holds rule D) D n (fails_itself rule D shapes) (asks_members rule D)) (ha : a < n) (hb : b < n)
        (below-a : (c : ℕ) → D.enters a c ≡ true → c < b) (below-b : (c : ℕ) → D.enters b c ≡ true → c < b) (decided : TellsAll (Holds rule D) D b rows) where
      inside : (c : ℕ) → joined D a b c ≡ true → c < b
      inside c h = elim (or_cases (D.enters a c) (D.enters b c) h) [ inl p ↦ below-a c p | inr p ↦ below-b c p ]

      module _ (t : Bool) (test : TestsPair rule D shapes marks inner members-a a b t) where
        one-key : t ≡ true → D.one_key a b ≡ true
        one-key e = elim (cases_Bool (D.one_key a b)) [ inl h ↦ h | inr h ↦ absurd (both_ways t (test.other_key h) e) ]

        breaks : t ≡ true → Holds rule D a b → ⊥
        breaks e p = go (test.one_key (one-key e))
          where
            deep : (j : Bool) → TestsJoined marks inner members-a a b j → (asks_members rule D a b && j) ≡ true → ⊥
            deep j joins h =
                let both : (asks_members rule D a b ≡ true) × (j ≡ true) = and_parts (asks_members rule D a b) j h in
                let f : Found rows (joined D a b) (joined D a b) = joined-found j joins (both.1) in
                let s : Tells (Holds rule D) D f.one f.other (fail rows f.one f.other) = decided f.one f.other (inside f.one f.first) (inside f.other f.second) in
                s.breaks f.fails (laws.deep_gives a b (both.0) p f.one f.other (record { first = f.first; second = f.second; apart = s.apart f.fails; one_key = s.one_key f.fails }))

            go : ((j : Bool) × TestsJoined marks inner members-a a b j × (t ≡ fails_with rule D shapes j a b)) → ⊥
            go (j, joins, is) =
                elim (or_cases (fails_itself rule D shapes a b) (asks_members rule D a b && j) (sym is ∙ e)) [
                  | inl h ↦ laws.own_breaks a b ha hb h p
                  | inr h ↦ deep j joins h
                ]

        keeps : t ≡ false → a ≢ b → D.one_key a b ≡ true → Holds rule D a b
        keeps e ne k = go (test.one_key k)
          where
            deep : (j : Bool) → TestsJoined marks inner members-a a b j → (asks_members rule D a b && j) ≡ false → asks_members rule D a b ≡ true → (c d : ℕ) → IsPair D (joined D a b) c d → Holds rule D c d
            deep j joins h asked c d p =
                elim (and_cases (asks_members rule D a b) j h) [
                  | inl idle ↦ absurd (both_ways (asks_members rule D a b) idle asked)
                  | inr unmet ↦
                      let s : Tells (Holds rule D) D c d (fail rows c d) = decided c d (inside c p.first) (inside d p.second) in
                      s.keeps (elim (cases_Bool (fail rows c d)) [ inl f ↦ absurd (joined-none j joins unmet c d p.first p.second f) | inr f ↦ f ]) p.apart p.one_key
                ]

            go : ((j : Bool) × TestsJoined marks inner members-a a b j × (t ≡ fails_with rule D shapes j a b)) → Holds rule D a b
            go (j, joins, is) =
                let parts : (fails_itself rule D shapes a b ≡ false) × ((asks_members rule D a b && j) ≡ false) = or_parts (fails_itself rule D shapes a b) (asks_members rule D a b && j) (sym is ∙ e) in
                laws.make a b ha hb ne k (parts.0) (deep j joins (parts.1))

        pub step : Tells (Holds rule D) D a b t
        step = record {
          apart = λ e same. omega arith;
          one_key = one-key;
          breaks = breaks;
          keeps = keeps;
        }

-- the table with a row more tells of a field more
pub tells-push : (P : ℕ → ℕ → Type 0) (D : Fields ℕ) (rows : List (List ℕ)) (new : List ℕ) (b : ℕ) → IsSymmetric D → ((c d : ℕ) → P c d → P d c) → length rows ≡ b → IsBelow rows → ((a : ℕ) → has new a ≡ true → a < b)
    → TellsAll P D b rows → ((a : ℕ) → a < b → Tells P D a b (has new a)) → TellsAll P D (b + 1) (rows ++ new ∷ [])
tells-push P D rows new b symmetric swap len below last decided each c d hc hd = go (cases_lt c b) (cases_lt d b)
  where
    all : List (List ℕ)
    all = rows ++ new ∷ []

    -- a field doesn't fail with itself
    never : fail (rows ++ new ∷ []) b b ≡ false
    never =
        elim (cases_Bool (has new b)) [
          | inl h ↦ absurd (let lt = last b h in omega arith)
          | inr h ↦ rw (entry-pushed rows new b b len, h) refl
        ]

    go : (c < b) ⊎ (b ≤ c) → (d < b) ⊎ (b ≤ d) → Tells P D c d (fail (rows ++ new ∷ []) c d)
    go (inl lc) (inl ld) = rw (fail-push rows new c d (omega arith) (omega arith)) (decided c d lc ld)
    go (inl lc) (inr ld) = let e : d ≡ b = omega arith in rw e (rw (fail-pushed rows new b c len below lc) (each c lc))
    go (inr lc) (inl ld) =
        let e : c ≡ b = omega arith in
        rw e (tells-swap P D d b (has new d) (fail (rows ++ new ∷ []) b d) symmetric.one_key swap (sym (fail-pushed rows new b d len below ld) ∙ fail-comm (rows ++ new ∷ []) d b) (each d ld))
    go (inr lc) (inr ld) =
        let e : c ≡ b = omega arith in
        let f : d ≡ b = omega arith in
        rw (e, f, never) (record {
          apart = λ h. absurd (both_ways false refl h);
          one_key = λ h. absurd (both_ways false refl h);
          breaks = λ h. absurd (both_ways false refl h);
          keeps = λ h ne k. absurd (ne refl);
        })

found-push : (D : Fields ℕ) (rows : List (List ℕ)) (new : List ℕ) (n a : ℕ) → length rows ≡ n → ((c : ℕ) → D.enters a c ≡ true → c < n) → Found rows (D.enters a) (D.enters a) → Found (rows ++ new ∷ []) (D.enters a) (D.enters a)
found-push D rows new n a len below f =
    let lc = below f.one f.first in
    let ld = below f.other f.second in
    record { one = f.one; other = f.other; first = f.first; second = f.second; fails = fail-push rows new f.one f.other (omega arith) (omega arith) ∙ f.fails }

found-pop : (D : Fields ℕ) (rows : List (List ℕ)) (new : List ℕ) (n a : ℕ) → length rows ≡ n → ((c : ℕ) → D.enters a c ≡ true → c < n) → Found (rows ++ new ∷ []) (D.enters a) (D.enters a) → Found rows (D.enters a) (D.enters a)
found-pop D rows new n a len below f =
    let lc = below f.one f.first in
    let ld = below f.other f.second in
    record { one = f.one; other = f.other; first = f.first; second = f.second; fails = sym (fail-push rows new f.one f.other (omega arith) (omega arith)) ∙ f.fails }

-- knowledge of the fields' own members stays with a row more
pub inner-push : (D : Fields ℕ) (rows : List (List ℕ)) (new inner : List ℕ) (n m : ℕ) → length rows ≡ n → ((a c : ℕ) → a < m → D.enters a c ≡ true → c < n) → KnowsInner D rows inner m → KnowsInner D (rows ++ new ∷ []) inner m
inner-push D rows new inner n m len below known = record {
  below = known.below;
  only = λ a e. found-push D rows new n a len (λ c h. below a c (known.below a e) h) (known.only a e);
  all = λ a lt f. known.all a lt (found-pop D rows new n a len (λ c h. below a c lt h) f);
}

-- one field more is known
pub inner-noted : (D : Fields ℕ) (rows : List (List ℕ)) (old new marks members : List ℕ) (b : ℕ) → ((c : ℕ) → D.enters b c ≡ has members c) → AreMarks rows (has members) marks
    → ((a : ℕ) → a ≢ b → has new a ≡ has old a) → Meets marks members (has new b) → KnowsInner D rows old b → KnowsInner D rows new (b + 1)
inner-noted D rows old new marks members b enters marked others own known = record { below = below; only = only; all = all }
  where
    below : (a : ℕ) → has new a ≡ true → a < b + 1
    below a e =
        elim (cases_eq a b) [
          | inl same ↦ omega arith
          | inr ne ↦ let lt = known.below a (sym (others a ne) ∙ e) in omega arith
        ]

    mine : Common marks members → Found rows (D.enters b) (D.enters b)
    mine m =
        let f : FailsWith rows m.place (has members) = marked.only m.place m.first in
        record { one = m.place; other = f.other; first = enters m.place ∙ m.second; second = enters f.other ∙ f.member; fails = f.fails }

    only : (a : ℕ) → has new a ≡ true → Found rows (D.enters a) (D.enters a)
    only a e =
        elim (cases_eq a b) [
          | inl same ↦ rw same (mine (own.found (rw (← same) e)))
          | inr ne ↦ known.only a (sym (others a ne) ∙ e)
        ]

    met : Found rows (D.enters b) (D.enters b) → has new b ≡ true
    met f =
        elim (cases_Bool (has new b)) [
          | inl h ↦ h
          | inr h ↦ absurd (own.none h (record { place = f.one; first = marked.all f.one f.other (sym (enters f.other) ∙ f.second) f.fails; second = sym (enters f.one) ∙ f.first }))
        ]

    all : (a : ℕ) → a < b + 1 → Found rows (D.enters a) (D.enters a) → has new a ≡ true
    all a lt f =
        elim (cases_eq a b) [
          | inl same ↦ rw same (met (rw same at f))
          | inr ne ↦ others a ne ∙ known.all a (omega arith) f
        ]

-- ---- reading the fields

at-read : {A : Type 0} (g : Field → A) (d : A) (fields : List Field) (b : ℕ) (f : Field) → b < length fields → at g d fields b ≡ g (get_or fields b f)
at-read g d [] b f lt = absurd (omega arith)
at-read g d (r ∷ rs) zero f lt = refl
at-read g d (r ∷ rs) (suc b) f lt = at-read g d rs b f (omega arith)

pub at-get : {A : Type 0} (g : Field → A) (d : A) (fields : List Field) (b : ℕ) (f : Field) → b < length fields → f ≡ get_or fields b f → at g d fields b ≡ g f
at-get g d fields b f lt e = at-read g d fields b f lt ∙ ap g (sym e)

pub test_at-get : (t : Field → Field → Bool) (fields : List Field) (a b : ℕ) (x y : Field) → a < length fields → b < length fields → x ≡ get_or fields a x → y ≡ get_or fields b y → test_at t fields a b ≡ t x y
test_at-get t fields a b x y la lb ea eb = at-get (λ z. at (t z) false fields b) false fields a x la ea ∙ at-get (t x) false fields b y lb eb

-- shows the same of what an index into a struct's list gives
pub test_at-read : (t : Field → Field → Bool) (fields : List Field) (a b : ℕ) (x y : Field) → a < length fields → b < length fields → t (get_or fields a x) (get_or fields b y) ≡ test_at t fields a b
test_at-read t fields a b x y la lb = sym (at-read (λ z. at (t z) false fields b) false fields a x la ∙ at-read (t (get_or fields a x)) false fields b y lb)

-- ---- a row's tests

pub row-more : (P : ℕ → Bool → Type 0) (old new : List ℕ) (a : ℕ) → ((i : ℕ) → has new i ≡ (has old i || (i == a))) → ((k : ℕ) → has old k ≡ true → k < a) → ((k : ℕ) → k < a → P k (has old k)) → P a true
    → ((k : ℕ) → has new k ≡ true → k < a + 1) × ((k : ℕ) → k < a + 1 → P k (has new k))
row-more P old new a is below each here = (only, all)
  where
    only : (k : ℕ) → has new k ≡ true → k < a + 1
    only k e =
        elim (or_cases (has old k) (k == a) (sym (is k) ∙ e)) [
          | inl h ↦ let b = below k h in omega arith
          | inr h ↦ let b = eqb-true k a h in omega arith
        ]

    all : (k : ℕ) → k < a + 1 → P k (has new k)
    all k lt =
        elim (cases_lt k a) [
          | inl earlier ↦
              let same : has new k ≡ has old k = is k ∙ sym (or-false (has old k) (k == a) (ne_eqb k a (λ e. omega arith))) in
              rw same (each k earlier)
          | inr last ↦
              let e : k ≡ a = omega arith in
              rw (e, is a ∙ or_right (has old a) (a == a) (eq-eqb a a refl)) here
        ]

pub row-same : (P : ℕ → Bool → Type 0) (old : List ℕ) (a : ℕ) → ((k : ℕ) → has old k ≡ true → k < a) → ((k : ℕ) → k < a → P k (has old k)) → P a false
    → ((k : ℕ) → has old k ≡ true → k < a + 1) × ((k : ℕ) → k < a + 1 → P k (has old k))
row-same P old a below each here = (λ k e. let b = below k e in omega arith, all)
  where
    absent : has old a ≡ false
    absent = elim (cases_Bool (has old a)) [ inl h ↦ absurd (let b = below a h in omega arith) | inr h ↦ h ]

    all : (k : ℕ) → k < a + 1 → P k (has old k)
    all k lt =
        elim (cases_lt k a) [
          | inl earlier ↦ each k earlier
          | inr last ↦ let e : k ≡ a = omega arith in rw (e, absent) here
        ]

at-same : {A : Type 0} (f g : Field → A) (d : A) (fields : List Field) (n : ℕ) → ((x : Field) → f x ≡ g x) → at f d fields n ≡ at g d fields n
at-same f g d [] n h = refl
at-same f g d (r ∷ rs) zero h = h r
at-same f g d (r ∷ rs) (suc n) h = at-same f g d rs n h

at-nowhere : (fields : List Field) (n : ℕ) → at (λ x. false) false fields n ≡ false
at-nowhere [] n = refl
at-nowhere (r ∷ rs) zero = refl
at-nowhere (r ∷ rs) (suc n) = at-nowhere rs n

-- the two numbers of a test may be read in either order
read-swap : (t : Field → Field → Bool) (xs ys : List Field) (a b : ℕ) → at (λ x. at (t x) false ys b) false xs a ≡ at (λ y. at (λ x. t x y) false xs a) false ys b
read-swap t [] ys a b = sym (at-nowhere ys b)
read-swap t (x ∷ xs) ys zero b = refl
read-swap t (x ∷ xs) ys (suc a) b = read-swap t xs ys a b

test-swap : (t : Field → Field → Bool) → ((x y : Field) → t x y ≡ t y x) → (fields : List Field) (a b : ℕ) → test_at t fields a b ≡ test_at t fields b a
test-swap t same fields a b = read-swap t fields fields a b ∙ at-same (λ y. at (λ x. t x y) false fields a) (λ y. at (t y) false fields a) false fields b (λ y. at-same (λ x. t x y) (t y) false fields a (λ x. same x y))

eq-swap : (m n : ℕ) → (m == n) ≡ (n == m)
eq-swap m n =
    elim (cases_eq m n) [
      | inl e ↦ eq-eqb m n e ∙ sym (eq-eqb n m (sym e))
      | inr ne ↦ ne_eqb m n ne ∙ sym (ne_eqb n m (λ e. ne (sym e)))
    ]

or-comm : (x y : Bool) → (x || y) ≡ (y || x)
or-comm true true = refl
or-comm true false = refl
or-comm false true = refl
or-comm false false = refl

pub fields-symmetric : (fields : List Field) → IsSymmetric (fields_of fields)
fields-symmetric fields = record {
  one_key = test-swap have_one_key (λ x y. eq-swap x.key y.key) fields;
  alike = test-swap are_alike (λ x y. eq-swap x.shape y.shape) fields;
  meet = test-swap may_meet (λ x y. rw (eq-swap x.parent y.parent, or-comm (not x.object) (not y.object)) refl) fields;
  agree = test-swap do_agree (λ x y. rw (eq-swap x.name y.name, eq-swap x.arguments y.arguments) refl) fields;
}
