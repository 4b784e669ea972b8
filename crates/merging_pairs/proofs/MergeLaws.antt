-- The two recursions are made and broken by one step.
use Rattle.std.proofs.Common.{◌≡◌, ◌≢◌, ℕ, ◌<◌, Bool, true, false, not, ◌||◌, ◌&&◌, List, refl, ◌∙◌, inl, inr}
use Rattle.std.proofs.lemmas.Bool.{or_cases, or_parts, or_left, or_right, and_parts, and_cases, both_ways, not-true, not-false}
use Rattle.merging_pairs.specs.Merging.{Fields, IsPair, joined, SameShape, same, CanMerge, merges, Merges}
use Rattle.merging_pairs.specs.declared.recursion.MergeRecursion.{MergeRecursion}
use Rattle.merging_pairs.specs.declared.recursion.MergeRecursion.TheVariants.{Shape, Merge}
use Rattle.merging_pairs.specs.Table.{fail, TellsAll, Holds, IsReady, fails_itself, asks_members}

-- the relations between two fields don't ask which is the first
pub record IsSymmetric {F : Type 0} (D : Fields F) : Type 0 where
  pub one_key : (a b : F) → D.one_key a b ≡ D.one_key b a
  pub alike : (a b : F) → D.alike a b ≡ D.alike b a
  pub meet : (a b : F) → D.meet a b ≡ D.meet b a
  pub agree : (a b : F) → D.agree a b ≡ D.agree b a

or-swap : (x y : Bool) → (x || y) ≡ true → (y || x) ≡ true
or-swap x y e = elim (or_cases x y e) [ inl h ↦ or_right y x h | inr h ↦ or_left y x h ]

module _ {F : Type 0} (D : Fields F) where
  pub pair-swap : (a b c d : F) → IsPair D (joined D a b) c d → IsPair D (joined D b a) c d
  pair-swap a b c d p = record { first = or-swap (D.enters a c) (D.enters b c) p.first; second = or-swap (D.enters a d) (D.enters b d) p.second; apart = p.apart; one_key = p.one_key }

  pub shape-alike : {a b : F} → SameShape D a b → D.alike a b ≡ true
  shape-alike (same e h) = e

  pub shape-deeper : {a b : F} → SameShape D a b → (c d : F) → IsPair D (joined D a b) c d → SameShape D c d
  shape-deeper (same e h) = h

  pub can-from : (ms : F → Bool) → ((a b : F) → IsPair D ms a b → Merges D a b) → CanMerge D ms
  can-from ms h = merges (λ a b p. (h a b p).shape) (λ a b p. (h a b p).agree) (λ a b p. (h a b p).deeper)

  pub can-gives : {ms : F → Bool} → CanMerge D ms → (a b : F) → IsPair D ms a b → Merges D a b
  can-gives (merges s p d) a b q = record { shape = s a b q; agree = p a b q; deeper = d a b q }

  module _ (symmetric : IsSymmetric D) where
    pub shape-swap : (a b : F) → SameShape D a b → SameShape D b a
    shape-swap a b s = same (symmetric.alike b a ∙ shape-alike s) (λ c d q. shape-deeper s c d (pair-swap b a c d q))

    can-swap : (a b : F) → CanMerge D (joined D a b) → CanMerge D (joined D b a)
    can-swap a b c = can-from (joined D b a) (λ x y p. can-gives c x y (pair-swap b a x y p))

    pub merges-swap : (a b : F) → Merges D a b → Merges D b a
    merges-swap a b m = record {
      shape = shape-swap a b m.shape;
      agree = λ e. symmetric.agree b a ∙ m.agree (symmetric.meet a b ∙ e);
      deeper = λ e. can-swap a b (m.deeper (symmetric.meet a b ∙ e));
    }

-- says what makes and breaks a relation on pairs: whether a pair fails by itself, and whether its members are
-- asked
pub record Laws (P : ℕ → ℕ → Type 0) (D : Fields ℕ) (n : ℕ) (own deep : ℕ → ℕ → Bool) : Type 0 where
  pub make : (a b : ℕ) → a < n → b < n → a ≢ b → D.one_key a b ≡ true → own a b ≡ false → (deep a b ≡ true → (c d : ℕ) → IsPair D (joined D a b) c d → P c d) → P a b
  pub own_breaks : (a b : ℕ) → a < n → b < n → own a b ≡ true → P a b → ⊥
  pub deep_gives : (a b : ℕ) → deep a b ≡ true → P a b → (c d : ℕ) → IsPair D (joined D a b) c d → P c d
  pub swap : (a b : ℕ) → P a b → P b a

module _ (D : Fields ℕ) (symmetric : IsSymmetric D) (n : ℕ) where
  shape-laws : (shapes : List (List ℕ)) → Laws (SameShape D) D n (fails_itself Shape D shapes) (asks_members Shape D)
  shape-laws shapes = record {
    make = λ a b ha hb ne k e within. same (not-false (D.alike a b) e) (within refl);
    own_breaks = λ a b ha hb e s. both_ways (D.alike a b) (not-true (D.alike a b) e) (shape-alike D s);
    deep_gives = λ a b e s. shape-deeper D s;
    swap = shape-swap D symmetric;
  }

  module _ (shapes : List (List ℕ)) (decided : TellsAll (SameShape D) D n shapes) where
    making : (a b : ℕ) → a < n → b < n → a ≢ b → D.one_key a b ≡ true → fails_itself Merge D shapes a b ≡ false → (asks_members Merge D a b ≡ true → (c d : ℕ) → IsPair D (joined D a b) c d → Merges D c d) → Merges D a b
    making a b ha hb ne k e within =
        let parts : (fail shapes a b ≡ false) × ((D.meet a b && not (D.agree a b)) ≡ false) = or_parts (fail shapes a b) (D.meet a b && not (D.agree a b)) e in
        record {
          shape = (decided a b ha hb).keeps (parts.0) ne k;
          agree = λ m. elim (and_cases (D.meet a b) (not (D.agree a b)) (parts.1)) [ inl h ↦ absurd (both_ways (D.meet a b) h m) | inr h ↦ not-false (D.agree a b) h ];
          deeper = λ m. can-from D (joined D a b) (within m);
        }

    breaking : (a b : ℕ) → a < n → b < n → fails_itself Merge D shapes a b ≡ true → Merges D a b → ⊥
    breaking a b ha hb e m =
        elim (or_cases (fail shapes a b) (D.meet a b && not (D.agree a b)) e) [
          | inl h ↦ (decided a b ha hb).breaks h m.shape
          | inr h ↦
              let both : (D.meet a b ≡ true) × (not (D.agree a b) ≡ true) = and_parts (D.meet a b) (not (D.agree a b)) h in
              both_ways (D.agree a b) (not-true (D.agree a b) (both.1)) (m.agree (both.0))
        ]

    merge-laws : Laws (Merges D) D n (fails_itself Merge D shapes) (asks_members Merge D)
    merge-laws = record { make = making; own_breaks = breaking; deep_gives = λ a b e m. can-gives D (m.deeper e); swap = merges-swap D symmetric }

  pub rule-laws : (rule : MergeRecursion) (shapes : List (List ℕ)) → IsReady rule D n shapes → Laws (Holds rule D) D n (fails_itself rule D shapes) (asks_members rule D)
  rule-laws Shape shapes ready = shape-laws shapes
  rule-laws Merge shapes ready = merge-laws shapes (ready.1)
