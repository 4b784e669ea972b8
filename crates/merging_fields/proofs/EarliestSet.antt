-- Of the sets in which two fields clash the one with the earliest `{` is reported.
use Rattle.std.proofs.Common.{◌≡◌, ◌∙◌, sym, ap, subst, refl, ℕ, ◌<◌, inl, inr, Bool, true, false, ◌&&◌, ◌==◌, cond, List, [], ◌∷◌, Option, Some}
use Rattle.std.specs.Prelude.{filter, filter_map, find, fold}
use Rattle.std.specs.List.{list_any}
use Rattle.std.specs.Option.{option_and_then}
use Rattle.std.proofs.lemmas.Bool.{or_cases, or_left, or_right, and_from, both_ways, eqb-true, eq-eqb}
use Rattle.text_place.specs.Order.{is_before}
use Rattle.text_place.specs.declared.place.Place.{Place}
use Rattle.rules_parts.specs.Broken.{BrokenOf, earlier, with_broken, earliest}
use Rattle.merging_pairs.specs.Clashes.{key_clashes, first_clash, has_clash}
use Rattle.merging_pairs.specs.Numbered.{is_in}
use Rattle.merging_members.specs.Members.{SetOf}
use Rattle.merging_members.proofs.Below.{AllUnder, AreFields}
use Rattle.merging_fields.specs.Reports.{report_of_set, with_set, earliest_set}

-- ---- a set in which two fields clash is reported

any-found : (test : ℕ → Bool) (ms : List ℕ) → list_any test ms ≡ true → (a : ℕ) × (is_in ms a ≡ true) × (test a ≡ true)
any-found test [] e = absurd (both_ways false refl e)
any-found test (m ∷ ms) e = elim (or_cases (test m) (list_any test ms) e) [
  | inl h ↦ (m, or_left (m == m) (is_in ms m) (eq-eqb m m refl), h)
  | inr h ↦ let r = any-found test ms h in (r.0, or_right (r.0 == m) (is_in ms r.0) r.1, r.2)
]

any-from : (test : ℕ → Bool) (ms : List ℕ) (a : ℕ) → is_in ms a ≡ true → test a ≡ true → list_any test ms ≡ true
any-from test [] a e h = absurd (both_ways false refl e)
any-from test (m ∷ ms) a e h = elim (or_cases (a == m) (is_in ms a) e) [
  | inl s ↦ or_left (test m) (list_any test ms) (subst (λ (b : ℕ). test b ≡ true) (eqb-true a m s) h)
  | inr r ↦ or_right (test m) (list_any test ms) (any-from test ms a r h)
]

find-some : (test : ℕ → Bool) (ms : List ℕ) (a : ℕ) → is_in ms a ≡ true → test a ≡ true → (f : ℕ) × (find test ms ≡ Some f)
find-some test [] a e h = absurd (both_ways false refl e)
find-some test (m ∷ ms) a e h = go (test m) refl (λ r. find-some test ms a r h)
  where
    go : (t : Bool) → test m ≡ t → (is_in ms a ≡ true → (f : ℕ) × (find test ms ≡ Some f)) → (f : ℕ) × (find test (m ∷ ms) ≡ Some f)
    go true i rest = (m, rw i refl)
    go false i rest = elim (or_cases (a == m) (is_in ms a) e) [
      | inl s ↦ absurd (both_ways (test m) i (subst (λ (b : ℕ). test b ≡ true) (eqb-true a m s) h))
      | inr r ↦ let later = rest r in (later.0, rw i later.1)
    ]

clash-found : (one_key clashes : ℕ → ℕ → Bool) (ms : List ℕ) → ((a : ℕ) → is_in ms a ≡ true → one_key a a ≡ true) → has_clash clashes ms ≡ true → (f : ℕ) × (first_clash one_key clashes ms ≡ Some f)
clash-found one_key clashes ms own e =
    let a = any-found (λ x. list_any (clashes x) ms) ms e in
    find-some (key_clashes one_key clashes ms) ms a.0 a.1
    (any-from (λ x. one_key x a.0 && list_any (clashes x) ms) ms a.0 a.1 (and_from (one_key a.0 a.0) (list_any (clashes a.0) ms) (own a.0 a.1) a.2))

-- the report of a set stands at its `{`
pub record IsReported (f : SetOf → Option BrokenOf) (s : SetOf) : Type 0 where
  pub broken : BrokenOf
  pub is : f s ≡ Some broken
  pub at : broken.place ≡ s.place

abbrev pub AllReported : (SetOf → Option BrokenOf) → List SetOf → Type 0
AllReported f [] = Unit {0}
AllReported f (s ∷ ss) = IsReported f s × AllReported f ss

module _ (one_key clashes : ℕ → ℕ → Bool) (key : ℕ → List ℕ) (n : ℕ) (own : (a : ℕ) → a < n → one_key a a ≡ true) where
  clash-reported : (s : SetOf) → AllUnder n s.members → has_clash clashes s.members ≡ true → IsReported (report_of_set one_key clashes key) s
  clash-reported s under e =
      let f = clash-found one_key clashes s.members (λ a h. own a (under a h)) e in
      record { broken = record { name = key f.0; place = s.place }; is = rw f.1 refl; at = refl }

  pub all-reported : (sets : List SetOf) → AreFields n sets → AllReported (report_of_set one_key clashes key) (filter (λ (s : SetOf). has_clash clashes s.members) sets)
  all-reported [] us = tt
  all-reported (s ∷ sets) us = go (has_clash clashes s.members) refl (all-reported sets us.1)
    where
      go : (t : Bool) → has_clash clashes s.members ≡ t → AllReported (report_of_set one_key clashes key) (filter (λ (s : SetOf). has_clash clashes s.members) sets)
          → AllReported (report_of_set one_key clashes key) (cond t (s ∷ filter (λ (s : SetOf). has_clash clashes s.members) sets) (filter (λ (s : SetOf). has_clash clashes s.members) sets))
      go true e rest = (clash-reported s us.0 e, rest)
      go false e rest = rest

-- ---- the earliest

module _ (f : SetOf → Option BrokenOf) where
  place-same : (p q r s : Place) (b c : BrokenOf) (x y : SetOf) → f x ≡ Some b → f y ≡ Some c → p ≡ q → r ≡ s → Some (cond (is_before p r) b c) ≡ f (cond (is_before q s) x y)
  place-same p q r s b c x y hx hy e h = rw (e, h) (go (is_before q s))
    where
      go : (t : Bool) → Some (cond t b c) ≡ f (cond t x y)
      go true = sym hx
      go false = sym hy

  kept-reported : (ss : List SetOf) (a : SetOf) → AllReported f ss → IsReported f a → fold with_broken (f a) (filter_map f ss) ≡ option_and_then f (fold with_set (Some a) ss)
  kept-reported [] a all report = refl
  kept-reported (s ∷ ss) a all report =
      let here = all.0 in
      let one = here.is in let other = report.is in
      let step : Some (earlier report.broken here.broken) ≡ f (cond (is_before s.place a.place) s a) = place-same here.broken.place s.place report.broken.place a.place here.broken report.broken s a one other here.at report.at in
      rw (other, one) (ap (λ (o : Option BrokenOf). fold with_broken o (filter_map f ss)) step ∙ kept-reported ss (cond (is_before s.place a.place) s a) all.1 (go (is_before s.place a.place)))
    where
      go : (t : Bool) → IsReported f (cond t s a)
      go true = all.0
      go false = report

  pub earliest-reported : (ss : List SetOf) → AllReported f ss → earliest (filter_map f ss) ≡ option_and_then f (earliest_set ss)
  earliest-reported [] all = refl
  earliest-reported (s ∷ ss) all =
      let here = all.0.is in
      rw here (ap (λ (o : Option BrokenOf). fold with_broken o (filter_map f ss)) (sym here) ∙ kept-reported ss s all.1 all.0)

-- the earliest set is one of the sets
one-under : (n : ℕ) (ss : List SetOf) (a s : SetOf) → AreFields n ss → AllUnder n a.members → fold with_set (Some a) ss ≡ Some s → AllUnder n s.members
one-under n [] a s us under e = let same : a ≡ s = cc in subst (λ (x : SetOf). AllUnder n x.members) same under
one-under n (x ∷ ss) a s us under e = one-under n ss (cond (is_before x.place a.place) x a) s us.1 (go (is_before x.place a.place)) e
  where
    go : (t : Bool) → AllUnder n (cond t x a).members
    go true = us.0
    go false = under

pub earliest-under : (n : ℕ) (ss : List SetOf) (s : SetOf) → AreFields n ss → earliest_set ss ≡ Some s → AllUnder n s.members
earliest-under n [] s us e = cc
earliest-under n (x ∷ ss) s us e = one-under n ss x s us.1 us.0 e
