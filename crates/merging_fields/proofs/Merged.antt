-- Every set can be merged where fields of one response key agree.
use Rattle.std.proofs.Common.{◌≡◌, ◌∙◌, refl, ℕ, zero, suc, ◌+◌, inl, inr, Bool, true, false, List, [], ◌∷◌, Some, None}
use Rattle.std.specs.Prelude.{slice_get}
use Rattle.std.proofs.lemmas.Bool.{both_ways, or_cases}
use Rattle.merging_pairs.specs.Merging.{Fields, joined, SameShape, same, CanMerge, merges}
use Rattle.merging_pairs.specs.Numbered.{is_in}
use Rattle.rules_parts.specs.Parts.{FieldPart, PartsOf}
use Rattle.rules_parts.specs.Listing as listing
use Rattle.merging_members.specs.Members.{SetOf, sets_of, members_below, members_of_fragment}
use Rattle.merging_members.specs.Placed.{IsOwn}
use Rattle.merging_members.proofs.Depth.{Deep}
use Rattle.merging_fields.specs.Agreeing.{AgreeByKey}
use Rattle.merging_fields.specs.Compare.{have_one_key, are_alike, do_agree}
use Rattle.merging_fields.specs.Members.{at, fields_of}
use Rattle.merging_fields.specs.Numbered.{as_written}
use Rattle.merging_fields.specs.FieldSelectionMerging.{AreBroken, none, merges as can_be_merged, IsMerging, key_of}
use Rattle.merging_fields.proofs.Listed.{written-at}
use Rattle.merging_fields.proofs.Twins.{test-is}

-- a field that passes a test is there
at-there : (test : FieldPart → Bool) (fs : List FieldPart) (a : ℕ) → at test false fs a ≡ true → (f : FieldPart) × (slice_get fs a ≡ Some f) × (test f ≡ true)
at-there test [] a e = absurd (both_ways false refl e)
at-there test (f ∷ fs) zero e = (f, refl, e)
at-there test (f ∷ fs) (suc a) e = at-there test fs a e

-- a member of an own set is one of a field that is there
own-there : (members : ℕ → FieldPart → List ℕ) (fs : List FieldPart) (a k c : ℕ) → is_in (at (members k) [] fs a) c ≡ true → (f : FieldPart) × (slice_get fs a ≡ Some f) × (is_in (members k f) c ≡ true)
own-there members [] a k c e = absurd (both_ways false refl e)
own-there members (f ∷ fs) zero k c e = (f, refl, e)
own-there members (f ∷ fs) (suc a) k c e = own-there members fs a k c e

module _ (p : PartsOf) (listed : p.fields ≡ listing.fields_of p.definitions p.document) (agree : AgreeByKey p) (depth : ℕ) (deep : (a : ℕ) → Deep p.document depth a) where
  abbrev D : Fields ℕ
  D = fields_of p

  own-of : (a c : ℕ) → D.enters a c ≡ true → IsOwn p.document a c
  own-of a c e =
      let r = own-there (λ k f. members_below (members_of_fragment p.document) (k + 1) f.below) p.fields a a c e in
      record { field = as_written r.0; here = written-at p.definitions p.document p.fields listed a r.0 r.1; member = r.2 }

  agreed : (a b : ℕ) → D.one_key a b ≡ true → (D.agree a b ≡ true) × (D.alike a b ≡ true)
  agreed a b e =
      let x = at-there (λ f. at (have_one_key f) false p.fields b) p.fields a e in
      let y = at-there (have_one_key x.0) p.fields b x.2 in
      let both = agree a b x.0 y.0 x.1 y.1 y.2 in
      (test-is do_agree p.fields a b x.0 y.0 x.1 y.1 ∙ both.0, test-is (are_alike p.definitions) p.fields a b x.0 y.0 x.1 y.1 ∙ both.1)

  below : (k a b x : ℕ) → Deep p.document (suc k) a → Deep p.document (suc k) b → joined D a b x ≡ true → Deep p.document k x
  below k a b x da db e = elim (or_cases (D.enters a x) (D.enters b x) e) [ inl h ↦ da x (own-of a x h) | inr h ↦ db x (own-of b x h) ]

  shaped : (k a b : ℕ) → Deep p.document k a → Deep p.document k b → D.one_key a b ≡ true → SameShape D a b
  shaped zero a b da db e = absurd da
  shaped (suc k) a b da db e = same (agreed a b e).1 (λ c d pair. shaped k c d (below k a b c da db pair.first) (below k a b d da db pair.second) pair.one_key)

  merged : (k : ℕ) (ms : ℕ → Bool) → ((c : ℕ) → ms c ≡ true → Deep p.document k c) → CanMerge D ms
  merged zero ms all = merges (λ a b pair. absurd (all a pair.first)) (λ a b pair meet. absurd (all a pair.first)) (λ a b pair meet. absurd (all a pair.first))
  merged (suc k) ms all = merges
      (λ a b pair. shaped (suc k) a b (all a pair.first) (all b pair.second) pair.one_key)
      (λ a b pair meet. (agreed a b pair.one_key).0)
      (λ a b pair meet. merged k (joined D a b) (λ c e. below k a b c (all a pair.first) (all b pair.second) e))

  unbroken : (sets : List SetOf) → AreBroken D (key_of p) sets []
  unbroken [] = none
  unbroken (s ∷ sets) = can_be_merged (merged depth (is_in s.members) (λ c e. deep c)) (unbroken sets)

  pub all-merged : IsMerging p None
  all-merged = ([], unbroken (sets_of p.document), refl)
