-- Sets of fields where it is known which pairs clash.
use Rattle.std.proofs.Common.{◌≡◌, ◌∙◌, sym, subst, refl, ℕ, ◌<◌, Bool, true, false, ◌&&◌, ◌==◌, cond, List, [], ◌∷◌, Some, None, inl, inr, ◌⊎◌}
use Rattle.std.specs.List.{list_any, find}
use Rattle.std.proofs.lemmas.Bool.{or_cases, or_left, or_right, and_parts, and_from, both_ways, cases_Bool, eqb-true, eq-eqb}
use Rattle.merging_pairs.specs.Merging.{Fields, CanMerge, Merges, Breaks, KeyMerges, IsFirst, breaks, later}
use Rattle.merging_pairs.specs.Numbered.{is_in}
use Rattle.merging_pairs.specs.Sets.{Common, Meets}
use Rattle.merging_pairs.specs.Table.{fail, Tells}
use Rattle.merging_pairs.specs.Clashes.{key_clashes, first_clash, has_clash, MarkedKey, TestsKey}
use Rattle.merging_pairs.specs.Entered.{IsReached}
use Rattle.merging_pairs.specs.declared.sets.ReachedFields.{ReachedFields}
use Rattle.merging_pairs.proofs.MergeLaws.{can-from, can-gives}

-- a member that passes a test
pub record Passing (test : ℕ → Bool) (ms : List ℕ) : Type 0 where
  pub one : ℕ
  pub member : is_in ms one ≡ true
  pub passes : test one ≡ true

pub passing : (test : ℕ → Bool) (ms : List ℕ) → list_any test ms ≡ true → Passing test ms
passing test [] e = absurd (both_ways false refl e)
passing test (m ∷ ms) e = go (or_cases (test m) (list_any test ms) e) (passing test ms)
  where
    go : (test m ≡ true) ⊎ (list_any test ms ≡ true) → (list_any test ms ≡ true → Passing test ms) → Passing test (m ∷ ms)
    go (inl h) rest = record { one = m; member = or_left (m == m) (is_in ms m) (eq-eqb m m refl); passes = h }
    go (inr h) rest = let p = rest h in record { one = p.one; member = or_right (p.one == m) (is_in ms p.one) p.member; passes = p.passes }

pub any-of : (test : ℕ → Bool) (ms : List ℕ) (c : ℕ) → is_in ms c ≡ true → test c ≡ true → list_any test ms ≡ true
any-of test [] c m p = absurd (both_ways false refl m)
any-of test (x ∷ xs) c m p = elim (or_cases (c == x) (is_in xs c) m) [
  | inl h ↦ or_left (test x) (list_any test xs) (subst (λ (y : ℕ). test y ≡ true) (eqb-true c x h) p)
  | inr h ↦ or_right (test x) (list_any test xs) (any-of test xs c h p)
]

pub not-found : (test : ℕ → Bool) (ms : List ℕ) (c : ℕ) → find test ms ≡ None → is_in ms c ≡ true → test c ≡ true → ⊥
not-found test [] c e m p = both_ways false refl m
not-found test (x ∷ xs) c e m p = go (test x) refl e (λ f s. not-found test xs c f s p)
  where
    go : (t : Bool) → test x ≡ t → cond t (Some x) (find test xs) ≡ None → (find test xs ≡ None → is_in xs c ≡ true → ⊥) → ⊥
    go true h f rest = cc
    go false h f rest = elim (or_cases (c == x) (is_in xs c) m) [
      | inl s ↦ both_ways (test x) h (subst (λ (y : ℕ). test y ≡ true) (eqb-true c x s) p)
      | inr s ↦ rest f s
    ]

module _ (D : Fields ℕ) (n : ℕ) (clash : ℕ → ℕ → Bool) (reflexive : (a : ℕ) → a < n → D.one_key a a ≡ true) (decided : (a b : ℕ) → a < n → b < n → Tells (Merges D) D a b (clash a b)) (ms : List ℕ) (below : (c : ℕ) → is_in ms c ≡ true → c < n) where
  clashes : ℕ → Bool
  clashes = key_clashes D.one_key clash ms

  key-clashes : (a b f : ℕ) → is_in ms a ≡ true → is_in ms b ≡ true → D.one_key a f ≡ true → clash a b ≡ true → clashes f ≡ true
  unfolding clashes
  key-clashes a b f ha hb k c = any-of (λ x. D.one_key x f && list_any (clash x) ms) ms a ha (and_from (D.one_key a f) (list_any (clash a) ms) k (any-of (clash a) ms b hb c))

  key-merges : (f : ℕ) → clashes f ≡ false → KeyMerges D (is_in ms) f
  key-merges f e a b p k = elim (cases_Bool (clash a b)) [
    | inl h ↦ absurd (both_ways (clashes f) e (key-clashes a b f p.first p.second k h))
    | inr h ↦ (decided a b (below a p.first) (below b p.second)).keeps h p.apart p.one_key
  ]

  key-breaks : (f : ℕ) → clashes f ≡ true → Breaks D (is_in ms) f
  unfolding clashes
  key-breaks f e = go (passing (λ x. D.one_key x f && list_any (clash x) ms) ms e)
    where
      more : (a : ℕ) → is_in ms a ≡ true → D.one_key a f ≡ true → Passing (clash a) ms → Breaks D (is_in ms) f
      more a ha k p =
          let t = decided a p.one (below a ha) (below p.one p.member) in
          record { one = a; other = p.one; pair = record { first = ha; second = p.member; apart = t.apart p.passes; one_key = t.one_key p.passes }; key = k; breaks = t.breaks p.passes }

      go : Passing (λ x. D.one_key x f && list_any (clash x) ms) ms → Breaks D (is_in ms) f
      go p =
          let both = and_parts (D.one_key p.one f) (list_any (clash p.one) ms) p.passes in
          more p.one p.member both.0 (passing (clash p.one) ms both.1)

  pub none-merges : first_clash D.one_key clash ms ≡ None → CanMerge D (is_in ms)
  unfolding clashes
  none-merges e = can-from D (is_in ms) (λ a b p. elim (cases_Bool (clash a b)) [
    | inl h ↦ absurd (not-found clashes ms a e p.first (key-clashes a b a p.first p.second (reflexive a (below a p.first)) h))
    | inr h ↦ (decided a b (below a p.first) (below b p.second)).keeps h p.apart p.one_key
  ])

  first-of : (xs : List ℕ) (f : ℕ) → find clashes xs ≡ Some f → IsFirst D (is_in ms) f xs × Breaks D (is_in ms) f
  first-of [] f e = cc
  first-of (x ∷ xs) f e = go (clashes x) refl e (first-of xs f)
    where
      go : (t : Bool) → clashes x ≡ t → cond t (Some x) (find clashes xs) ≡ Some f → (find clashes xs ≡ Some f → IsFirst D (is_in ms) f xs × Breaks D (is_in ms) f) → IsFirst D (is_in ms) f (x ∷ xs) × Breaks D (is_in ms) f
      go true h s rest = let same : x ≡ f = cc in subst (λ (y : ℕ). IsFirst D (is_in ms) y (x ∷ xs) × Breaks D (is_in ms) y) same (breaks (key-breaks x h), key-breaks x h)
      go false h s rest = (later (key-merges x h) (rest s).0, (rest s).1)

  pub first-breaks : (f : ℕ) → first_clash D.one_key clash ms ≡ Some f → (CanMerge D (is_in ms) → ⊥) × IsFirst D (is_in ms) f ms
  unfolding clashes
  first-breaks f e = let r = first-of ms f e in ((λ m. r.1.breaks (can-gives D m r.1.one r.1.other r.1.pair)), r.0)

pub both-true : (s t : Bool) → (s ≡ true → t ≡ true) → (t ≡ true → s ≡ true) → s ≡ t
both-true true t f g = sym (f refl)
both-true false true f g = g refl
both-true false false f g = refl

-- a test of keys tells whether a key clashes, where the members of a set and those that fail with one are known
pub tested-key : (one_key : ℕ → ℕ → Bool) (rows : List (List ℕ)) (ms : List ℕ) (r : ReachedFields) (n f : ℕ) (t : Bool)
    → ((c : ℕ) → is_in ms c ≡ true → c < n) → IsReached rows ms r → TestsKey one_key r.members r.marks n f t → t ≡ key_clashes one_key (fail rows) ms f
tested-key one_key rows ms r n f t below is tests = both-true t (key_clashes one_key (fail rows) ms f) there back
  where
    there : t ≡ true → key_clashes one_key (fail rows) ms f ≡ true
    there e =
        let m = tests.found e in
        let w = is.marks.only m.one m.mark in
        any-of (λ a. one_key a f && list_any (fail rows a) ms) ms m.one (sym (is.members m.one) ∙ m.member)
        (and_from (one_key m.one f) (list_any (fail rows m.one) ms) m.key (any-of (fail rows m.one) ms w.other w.member w.fails))

    marked : (a : ℕ) → is_in ms a ≡ true → one_key a f ≡ true → Passing (fail rows a) ms → MarkedKey one_key r.members r.marks n f
    marked a ha k p = record { one = a; below = below a ha; key = k; member = is.members a ∙ ha; mark = is.marks.all a p.one p.member p.passes }

    some : Passing (λ a. one_key a f && list_any (fail rows a) ms) ms → MarkedKey one_key r.members r.marks n f
    some p =
        let both = and_parts (one_key p.one f) (list_any (fail rows p.one) ms) p.passes in
        marked p.one p.member both.0 (passing (fail rows p.one) ms both.1)

    back : key_clashes one_key (fail rows) ms f ≡ true → t ≡ true
    back e = elim (cases_Bool t) [
      | inl h ↦ h
      | inr h ↦ absurd (tests.none h (some (passing (λ a. one_key a f && list_any (fail rows a) ms) ms e)))
    ]

-- shows the same of clashes
pub tested-clash : (rows : List (List ℕ)) (ms : List ℕ) (r : ReachedFields) (t : Bool) → IsReached rows ms r → Meets r.members r.marks t → t ≡ has_clash (fail rows) ms
tested-clash rows ms r t is met = both-true t (has_clash (fail rows) ms) there back
  where
    there : t ≡ true → has_clash (fail rows) ms ≡ true
    there e =
        let m = met.found e in
        let w = is.marks.only m.place m.second in
        any-of (λ a. list_any (fail rows a) ms) ms m.place (sym (is.members m.place) ∙ m.first) (any-of (fail rows m.place) ms w.other w.member w.fails)

    common : (a : ℕ) → is_in ms a ≡ true → Passing (fail rows a) ms → Common r.members r.marks
    common a ha p = record { place = a; first = is.members a ∙ ha; second = is.marks.all a p.one p.member p.passes }

    some : Passing (λ a. list_any (fail rows a) ms) ms → Common r.members r.marks
    some p = common p.one p.member (passing (fail rows p.one) ms p.passes)

    back : has_clash (fail rows) ms ≡ true → t ≡ true
    back e = elim (cases_Bool t) [
      | inl h ↦ h
      | inr h ↦ absurd (met.none h (some (passing (λ a. list_any (fail rows a) ms) ms e)))
    ]
