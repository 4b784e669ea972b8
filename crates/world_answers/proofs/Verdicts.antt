-- A document has a verdict.
use Rattle.std.proofs.Common.{◌+◌, inl, inr, ◌≡◌, ◌∙◌, refl, ℕ, zero, suc, ◌<◌, Bool, true, false, List, [], ◌∷◌, length, Option, Some, None, arith}
use Rattle.std.specs.Prelude.{option_map, slice_get}
use Rattle.std.proofs.lemmas.Bool.{both_ways, or_cases}
use Rattle.gq_parser.specs.Tree.{Document}
use Rattle.schema_syntax.specs.Tree.{Definition}
use Rattle.rules_parts.specs.Broken.{BrokenOf, earliest}
use Rattle.rules_parts.specs.Listing.{parts_of}
use Rattle.rules_parts.specs.Parts.{FieldPart, PartsOf}
use Rattle.merging_pairs.specs.Merging.{Fields, joined}
use Rattle.merging_pairs.specs.Numbered.{is_in}
use Rattle.merging_members.specs.Fragments.{place_in}
use Rattle.merging_members.specs.Members.{sets_of, members_below, members_of_fragment}
use Rattle.merging_members.specs.Placed.{IsOwn}
use Rattle.merging_members.proofs.Below.{document-fields}
use Rattle.merging_members.proofs.Depth.{Deep, depth, all-deep}
use Rattle.merging_members.proofs.RankedLaws.{ranked-fixed}
use Rattle.merging_fields.specs.Compare.{have_one_key}
use Rattle.merging_fields.specs.Members.{at, fields_of}
use Rattle.merging_fields.specs.FieldSelectionMerging.{IsMerging, key_of}
use Rattle.merging_fields.specs.Numbered.{as_written}
use Rattle.merging_fields.specs.Reports.{reports_of_sets}
use Rattle.merging_fields.proofs.Acyclic.{free-of, ranks, are-ranked}
use Rattle.merging_fields.proofs.Listed.{written-at}
use Rattle.merging_fields.proofs.Classes.{same-key}
use Rattle.merging_fields.proofs.Twins.{there, test-is}
use Rattle.merging_fields.proofs.Telling.{report-broken}
use Rattle.gq_check.specs.declared.fault.Rule.TheVariants as rule
use Rattle.gq_check.specs.Verdict.{FaultOf, breaks, first_fault, IsVerdictAfter, IsVerdict}
use Rattle.gq_check.proofs.Validity.{before-merging}
use Rattle.plan_laws.proofs.Counted.{many-document}
use Rattle.rules_spreads.specs.Rules.{fragment_spreads_must_not_form_cycles}
use Rattle.world_answers.proofs.Deciding.{clashes, tells}

under-one : (t : FieldPart → Bool) (fs : List FieldPart) (a : ℕ) → at t false fs a ≡ true → a < length fs
under-one t [] a e = absurd (both_ways false refl e)
under-one t (f ∷ fs) zero e = omega arith
under-one t (f ∷ fs) (suc a) e = let l = under-one t fs a e in omega (arith, l)

under-two : (t : FieldPart → FieldPart → Bool) (gs fs : List FieldPart) (a b : ℕ) → at (λ x. at (t x) false fs b) false gs a ≡ true → (a < length gs) × (b < length fs)
under-two t [] fs a b e = absurd (both_ways false refl e)
under-two t (g ∷ gs) fs zero b e = (omega arith, under-one (t g) fs b e)
under-two t (g ∷ gs) fs (suc a) b e = let l = under-two t gs fs a b e in let m = l.0 in (omega (arith, m), l.1)

own-there : (members : ℕ → FieldPart → List ℕ) (fs : List FieldPart) (a k c : ℕ) → is_in (at (members k) [] fs a) c ≡ true → (f : FieldPart) × (slice_get fs a ≡ Some f) × (is_in (members k f) c ≡ true)
own-there members [] a k c e = absurd (both_ways false refl e)
own-there members (f ∷ fs) zero k c e = (f, refl, e)
own-there members (f ∷ fs) (suc a) k c e = own-there members fs a k c e

module _ (defs : List Definition) (d : Document) where
  abbrev p : PartsOf
  p = parts_of defs d

  abbrev D : Fields ℕ
  D = fields_of (parts_of defs d)

  bounded : (a b : ℕ) → D.one_key a b ≡ true → (a < length p.fields) × (b < length p.fields)
  bounded a b e = under-two have_one_key p.fields p.fields a b e

  reflexive : (a : ℕ) → a < length p.fields → D.one_key a a ≡ true
  reflexive a h = let f = there p.fields a h in test-is have_one_key p.fields a a f.0 f.0 f.1 f.1 ∙ same-key.own f.0

  own-of : (a c : ℕ) → D.enters a c ≡ true → IsOwn d a c
  own-of a c e =
      let r = own-there (λ k f. members_below (members_of_fragment d) (k + 1) f.below) p.fields a a c e in
      record { field = as_written r.0; here = written-at defs d p.fields refl a r.0 r.1; member = r.2 }

  below : (k a b c : ℕ) → Deep d (suc k) a → Deep d (suc k) b → joined D a b c ≡ true → Deep d k c
  below k a b c da db e = elim (or_cases (D.enters a c) (D.enters b c) e) [ inl h ↦ da c (own-of a c h) | inr h ↦ db c (own-of b c h) ]

  -- where no fragment reaches itself, own sets stand only so deep
  merging : fragment_spreads_must_not_form_cycles p ≡ [] → (broken : Option BrokenOf) × IsMerging p broken
  merging none =
      let free = free-of defs d none in
      let ranked = are-ranked defs d free in
      let fixed = ranked-fixed (ranks defs d free) (place_in d.fragments) d (λ q. refl) ranked in
      let most = depth d (ranks defs d free) ranked fixed in
      let deep = all-deep d (ranks defs d free) ranked fixed in
      let clash : ℕ → ℕ → Bool = clashes D (length p.fields) bounded most in
      let reported : List BrokenOf = reports_of_sets D.one_key clash (key_of p) (sets_of d) in
      let broken = report-broken D (length p.fields) clash (key_of p) reflexive
      (λ a b la lb. tells D (length p.fields) bounded (Deep d) (λ a h. h) below most a b (deep a) (deep b)) (sets_of d) (document-fields (length p.fields) d (many-document defs d)) in
      (earliest reported, (reported, broken, refl))

  after : (first : Option FaultOf) → first_fault p ≡ first → (v : Option FaultOf) × IsVerdictAfter p first v
  after (Some f) e = (Some f, refl)
  after None e = let m = merging (before-merging p e).0 in (option_map (breaks rule.FieldSelectionMerging) m.0, (m.0, m.1, refl))

  -- a document has a verdict at least
  pub verdict-there : (v : Option FaultOf) × IsVerdict defs d v
  verdict-there = after (first_fault p) refl
