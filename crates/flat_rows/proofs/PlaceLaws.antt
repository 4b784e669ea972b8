-- Places of keys that rise.
use Rattle.std.proofs.Common.{◌≡◌, ◌≤◌, ◌<◌, ◌+◌, ℕ, zero, suc, Bool, true, false, List, length, get_or, refl, subst, arith}
use Rattle.std.specs.Prelude.{◌==◌}
use Rattle.std.proofs.lemmas.Bool.{eqb-true, eqb-false}
use Rattle.std.proofs.lemmas.Grind.{get_or_default_zero}
use Rattle.flat_rows.specs.Keyed.{ArePlaces}

module _ (keys : ℕ) (places : List ℕ) where
  abbrev pub at : ℕ → ℕ
  at k = get_or places k 0

  -- the first `i` are places of keys that rise, and the next one has to be no less than `least`
  pub record Rise (i least : ℕ) : Type 0 where
    pub within : (k : ℕ) → k < i → at k < keys
    pub rising : (k : ℕ) → k + 1 < i → at k < at (k + 1)
    pub first : i ≡ 0 → least ≡ 0
    pub later : (k : ℕ) → k + 1 ≡ i → least ≡ at k + 1

  pub rise-more : (i least : ℕ) → Rise i least → least ≤ at i → at i < keys → Rise (i + 1) (at i + 1)
  rise-more i least h low inside = record {
    within = λ k lt. there k lt (k == i) refl;
    rising = λ k lt. next k lt (k + 1 == i) refl;
    first = λ none. absurd (omega (arith, none));
    later = λ k last. let same : k ≡ i = omega (arith, last) in rw same refl;
  } where
    there : (k : ℕ) → k < i + 1 → (b : Bool) → (k == i) ≡ b → at k < keys
    there k lt true e = rw (eqb-true k i e) inside
    there k lt false e = h.within k (omega (arith, lt, eqb-false k i e))

    next : (k : ℕ) → k + 1 < i + 1 → (b : Bool) → (k + 1 == i) ≡ b → at k < at (k + 1)
    next k lt true e =
        let last = eqb-true (k + 1) i e in let is = h.later k last in
        rw last (omega (arith, is, low))
    next k lt false e = h.rising k (omega (arith, lt, eqb-false (k + 1) i e))

  pub rise-all : (i least : ℕ) → Rise i least → length places ≤ i → ArePlaces keys places
  rise-all i least h past = (
    λ k d lt. rw (get_or_default_zero places k d lt) (h.within k (omega (arith, lt, past))),
    λ k lt. h.rising k (omega (arith, lt, past)),
  )

  pub rise-low : (i least : ℕ) → Rise i least → i < length places → at i < least → ¬ (ArePlaces keys places)
  rise-low zero least h lt low all = let none = h.first refl in absurd (omega (arith, low, none))
  rise-low (suc k) least h lt low all =
      let last = h.later k (omega arith) in let on : k + 1 ≡ suc k = omega arith in
      let more : at k < at (suc k) = subst (λ n. at k < at n) on (all.1 k (omega (arith, lt))) in
      absurd (omega (arith, low, last, more))

  pub rise-past : (i : ℕ) → i < length places → keys ≤ at i → ¬ (ArePlaces keys places)
  rise-past i lt past all = let inside : at i < keys = all.0 i 0 lt in absurd (omega (arith, past, inside))
