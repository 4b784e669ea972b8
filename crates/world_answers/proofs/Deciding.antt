-- Lemmas on whether two fields merge can be said where no field's own sets stand deeper one inside another than some number: both
-- recursions are followed so far down.
use Rattle.std.proofs.Common.{◌≡◌, ℕ, zero, suc, ◌<◌, Bool, true, false, not, ◌&&◌, ◌||◌, ◌==◌, Decides, refl, arith}
use Rattle.std.proofs.lemmas.Bool.Decides.{Decides-below_and, nat_tests}
use Rattle.merging_pairs.specs.Merging.{Fields, IsPair, joined, SameShape, same, Merges}
use Rattle.merging_pairs.specs.Table.{Tells}
use Rattle.merging_pairs.proofs.MergeLaws.{can-from, can-gives, shape-alike, shape-deeper}

abbrev all_below : ℕ → (ℕ → Bool) → Bool
all_below zero p = true
all_below (suc n) p = p n && all_below n p

all-below : (p : ℕ → Bool) (n : ℕ) → Decides (all_below n p) ((k : ℕ) → k < n → p k ≡ true)
all-below p = Decides-below_and p (λ k. p k ≡ true) (λ n. all_below n p) (λ k. (λ e. e, λ e. e)) refl (λ n. refl)

module _ (D : Fields ℕ) (n : ℕ) (bounded : (c d : ℕ) → D.one_key c d ≡ true → (c < n) × (d < n)) where
  abbrev is_pair : (ℕ → Bool) → ℕ → ℕ → Bool
  is_pair ms c d = (ms c && ms d) && (not (c == d) && D.one_key c d)

  abbrev each_pair : (ℕ → ℕ → Bool) → (ℕ → Bool) → Bool
  each_pair p ms = all_below n (λ c. all_below n (λ d. not (is_pair ms c d) || p c d))

  pair : (ms : ℕ → Bool) (c d : ℕ) → Decides (is_pair ms c d) (IsPair D ms c d)
  pair ms c d = (λ e. record { first = grind arith; second = grind arith; apart = λ s. grind (arith, nat_tests); one_key = grind arith }, λ q. grind (arith, nat_tests))

  each : (p : ℕ → ℕ → Bool) (ms : ℕ → Bool) → Decides (each_pair p ms) ((c d : ℕ) → IsPair D ms c d → p c d ≡ true)
  each p ms = (
    λ e c d q.
        let under = bounded c d q.one_key in
        let row = (all-below _ n).0 e c under.0 in
        let cell : (not (is_pair ms c d) || p c d) ≡ true = (all-below (λ d'. not (is_pair ms c d') || p c d') n).0 row d under.1 in
        let is = (pair ms c d).1 q in
        grind arith,
    λ h. (all-below _ n).1 (λ c lc. (all-below _ n).1 (λ d ld. let it = h c d in let is = pair ms c d in grind arith)),
  )

  -- ---- the two recursions of the rule, so far down

  shaped : ℕ → ℕ → ℕ → Bool
  shaped zero a b = false
  shaped (suc k) a b = D.alike a b && each_pair (shaped k) (joined D a b)

  pub merged : ℕ → ℕ → ℕ → Bool
  merged zero a b = false
  merged (suc k) a b = shaped (suc k) a b && (not (D.meet a b) || (D.agree a b && each_pair (merged k) (joined D a b)))

  -- two different fields of one key clash
  abbrev pub clashes : ℕ → ℕ → ℕ → Bool
  clashes k a b = not (a == b) && (D.one_key a b && not (merged k a b))

  module _ (Deep : ℕ → ℕ → Type 0) (none : (a : ℕ) → Deep 0 a → ⊥) (below : (k a b c : ℕ) → Deep (suc k) a → Deep (suc k) b → joined D a b c ≡ true → Deep k c) where
    shaped-is : (k a b : ℕ) → Deep k a → Deep k b → Decides (shaped k a b) (SameShape D a b)
    unfolding shaped
    shaped-is zero a b da db = absurd (none a da)
    shaped-is (suc k) a b da db =
        let deeper = λ (c d : ℕ) (q : IsPair D (joined D a b) c d). shaped-is k c d (below k a b c da db q.first) (below k a b d da db q.second) in (
          λ e. same (grind arith) (λ c d q. (deeper c d q).0 ((each (shaped k) (joined D a b)).0 (grind arith) c d q)),
          λ s.
              let own = shape-alike D s in
              let members = (each (shaped k) (joined D a b)).1 (λ c d q. (deeper c d q).1 (shape-deeper D s c d q)) in
              grind arith,
        )

    merged-is : (k a b : ℕ) → Deep k a → Deep k b → Decides (merged k a b) (Merges D a b)
    unfolding merged
    merged-is zero a b da db = absurd (none a da)
    merged-is (suc k) a b da db =
        let deeper = λ (c d : ℕ) (q : IsPair D (joined D a b) c d). merged-is k c d (below k a b c da db q.first) (below k a b d da db q.second) in
        let shape = shaped-is (suc k) a b da db in (
          λ e. record {
            shape = shape.0 (grind arith);
            agree = λ m. grind arith;
            deeper = λ m. can-from D (joined D a b) (λ c d q. (deeper c d q).0 ((each (merged k) (joined D a b)).0 (grind arith) c d q));
          },
          λ m.
              let own = shape.1 m.shape in
              let agree = m.agree in
              let members : D.meet a b ≡ true → each_pair (merged k) (joined D a b) ≡ true = λ e. (each (merged k) (joined D a b)).1 (λ c d q. (deeper c d q).1 (can-gives D (m.deeper e) c d q)) in
              grind arith,
        )

    pub tells : (k a b : ℕ) → Deep k a → Deep k b → Tells (Merges D) D a b (clashes k a b)
    tells k a b da db = let is = merged-is k a b da db in record {
      apart = λ e s. grind (arith, nat_tests);
      one_key = λ e. grind arith;
      breaks = λ e m. let yes = is.1 m in grind arith;
      keeps = λ e ne key. is.0 (grind (arith, nat_tests));
    }
