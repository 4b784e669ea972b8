-- Fields that agree under one response key: in pairs, and with the first of each key, as they are seen one after the other.
use Rattle.std.proofs.Common.{◌≡◌, ◌∙◌, sym, ap, subst, refl, ℕ, ◌+◌, ◌<◌, ◌≤◌, inl, inr, Bool, true, false, List, length, Option, Some, None, arith, if◌then◌else◌}
use Rattle.std.specs.Prelude.{slice_get, bytes_eq}
use Rattle.std.proofs.lemmas.Bool.{cases_eq, cases_lt}
use Rattle.std.proofs.lemmas.Slice.Eq.{bytes_eq-Decides}
use Rattle.rules_parts.specs.Parts.{FieldPart, PartsOf}
use Rattle.merging_members.specs.Fragments.{or_else}
use Rattle.merging_members.proofs.Placing.{there, got-below}
use Rattle.merging_fields.specs.Agreeing.{AgreeByKey, AgreeUnderOneKey, FieldsAgree, AreSeen}
use Rattle.merging_fields.specs.Compare.{response_key, do_agree, are_alike}
use Rattle.merging_fields.proofs.Classes.{same-key, same-selected, same-shape}

text-same : (xs ys : List ℕ) → bytes_eq xs ys ≡ true → xs ≡ ys
text-same xs ys e = (bytes_eq-Decides xs ys).0 e

text-own : (xs : List ℕ) → bytes_eq xs xs ≡ true
text-own xs = (bytes_eq-Decides xs xs).1 refl

module _ (p : PartsOf) where
  -- the field of a number agrees with itself
  own-agrees : (n : ℕ) → FieldsAgree p n n
  own-agrees n f g hf hg =
      let same : f ≡ g = cc in
      subst (λ (x : FieldPart). (do_agree f x ≡ true) × (are_alike p.definitions f x ≡ true)) same ((same-selected).own f, (same-shape p.definitions).own f)

  -- says where all pairs are compared
  pub pairs-all : (n : ℕ) → length p.fields ≤ n → ((a b : ℕ) → a < b → b < n → AgreeUnderOneKey p a b) → AgreeByKey p
  pairs-all n le pairs a b f g ha hb e =
      let la = got-below p.fields a f ha in
      let lb = got-below p.fields b g hb in
      elim (cases_lt a b) [
        | inl lt ↦ pairs a b lt (omega (arith, lb, le)) f g ha hb e
        | inr ge ↦ elim (cases_eq a b) [
          | inl same ↦ own-agrees a f g ha (ap (slice_get p.fields) same ∙ hb)
          | inr ne ↦
              let other = pairs b a (omega (arith, ge, ne)) (omega (arith, la, le)) g f hb ha ((same-key).swap g f ∙ e) in
              ((same-selected).swap f g ∙ other.0, (same-shape p.definitions).swap f g ∙ other.1)
        ]
      ]

  pub none-seen : (first : List ℕ → Option ℕ) → ((q : List ℕ) → first q ≡ None) → AreSeen p first 0
  none-seen first none = record {
    there = λ q m e. let no = none q in cc;
    agree = λ a f lt here. absurd (omega (arith, lt));
  }

  -- a field that agrees with the first of its key
  pub seen-found : (first : List ℕ → Option ℕ) (n m : ℕ) (x : FieldPart) → AreSeen p first n → slice_get p.fields n ≡ Some x → first (response_key x) ≡ Some m → FieldsAgree p m n → AreSeen p first (n + 1)
  seen-found first n m x seen at found agrees = record {
    there = seen.there;
    agree = λ a f lt here. elim (cases_eq a n) [
      | inl same ↦
          let one : Some x ≡ Some f = sym at ∙ (ap (slice_get p.fields) (sym same) ∙ here) in
          let field : x ≡ f = cc in
          (m, ap (λ (y : FieldPart). first (response_key y)) (sym field) ∙ found, subst (λ (k : ℕ). FieldsAgree p m k) (sym same) agrees)
      | inr ne ↦ seen.agree a f (omega (arith, lt, ne)) here
    ];
  }

  -- the first field of its key
  pub seen-new : (old new : List ℕ → Option ℕ) (n : ℕ) (x : FieldPart) → AreSeen p old n → n < length p.fields → slice_get p.fields n ≡ Some x → old (response_key x) ≡ None
      → ((q : List ℕ) → new q ≡ or_else (old q) (if bytes_eq q (response_key x) then Some n else None)) → AreSeen p new (n + 1)
  seen-new old new n x seen lt at none noted = record {
    there = λ q m e. noted-there q (old q) refl (bytes_eq q (response_key x)) m (sym (noted q) ∙ e);
    agree = λ a f less here. elim (cases_eq a n) [
      | inl same ↦
          let one : Some x ≡ Some f = sym at ∙ (ap (slice_get p.fields) (sym same) ∙ here) in
          let field : x ≡ f = cc in
          (n, ap (λ (y : FieldPart). new (response_key y)) (sym field) ∙ first-noted, subst (λ (k : ℕ). FieldsAgree p n k) (sym same) (own-agrees n))
      | inr ne ↦
          let r = seen.agree a f (omega (arith, less, ne)) here in
          (r.0, noted (response_key f) ∙ ap (λ (o : Option ℕ). or_else o (if bytes_eq (response_key f) (response_key x) then Some n else None)) r.1, r.2)
    ];
  }
    where
      noted-there : (q : List ℕ) (o : Option ℕ) → old q ≡ o → (b : Bool) (m : ℕ) → or_else o (if b then Some n else None) ≡ Some m → m < length p.fields
      noted-there q None is true m e = let same : n ≡ m = cc in omega (arith, same, lt)
      noted-there q None is false m e = cc
      noted-there q (Some k) is b m e = seen.there q m (is ∙ e)

      first-noted : new (response_key x) ≡ Some n
      first-noted = noted (response_key x) ∙ (ap (λ (o : Option ℕ). or_else o (if bytes_eq (response_key x) (response_key x) then Some n else None)) none ∙ ap (λ (b : Bool). if b then Some n else None) (text-own (response_key x)))

  -- says where all fields are seen
  pub seen-all : (first : List ℕ → Option ℕ) (n : ℕ) → length p.fields ≤ n → AreSeen p first n → AgreeByKey p
  seen-all first n le seen a b f g ha hb e =
      let la = got-below p.fields a f ha in
      let lb = got-below p.fields b g hb in
      let r = seen.agree a f (omega (arith, la, le)) ha in
      let s = seen.agree b g (omega (arith, lb, le)) hb in
      let key : response_key f ≡ response_key g = text-same (response_key f) (response_key g) e in
      let both : Some r.0 ≡ Some s.0 = sym r.1 ∙ (ap first key ∙ s.1) in
      let number : r.0 ≡ s.0 = cc in
      let x = there p.fields r.0 (seen.there (response_key f) r.0 r.1) in
      let one = r.2 x.0 f x.1 ha in
      let other = s.2 x.0 g (ap (slice_get p.fields) (sym number) ∙ x.1) hb in
      let shape = same-shape p.definitions in
      (same-selected.third f x.0 g (same-selected.swap f x.0 ∙ one.0) other.0, shape.third f x.0 g (shape.swap f x.0 ∙ one.1) other.1)
