-- The fields of a document by their numbers, which are their places in the list of its fields from 0, as the rule sees them.
use Rattle.std.specs.Prelude.{ℕ, zero, suc, ◌+◌, Bool, false, List, [], ◌∷◌}
use Rattle.merging_pairs.specs.Merging.{Fields}
use Rattle.merging_pairs.specs.Numbered.{is_in}
use Rattle.merging_members.specs.Members.{members_below, members_of_fragment}
use Rattle.rules_parts.specs.Parts.{FieldPart, PartsOf}
use Rattle.merging_fields.specs.Compare.{have_one_key, are_alike, may_meet, do_agree}

-- gives what is said of the field of a number
abbrev pub at : {A : Type 0} → (FieldPart → A) → A → List FieldPart → ℕ → A
at g d [] n = d
at g d (f ∷ fs) zero = g f
at g d (f ∷ fs) (suc n) = at g d fs n

abbrev pub test_at : (FieldPart → FieldPart → Bool) → List FieldPart → ℕ → ℕ → Bool
test_at t fields a b = at (λ x. at (t x) false fields b) false fields a

-- the members of the own selection set of the field of a number
abbrev pub members_at : PartsOf → ℕ → List ℕ
members_at p a =
    at (λ f. members_below (members_of_fragment p.document) (a + 1) f.below) [] p.fields a

-- the fields of a document, as the rule sees them
abbrev pub fields_of : PartsOf → Fields ℕ
fields_of p = record {
  one_key = test_at have_one_key p.fields;
  alike = test_at (are_alike p.definitions) p.fields;
  meet = test_at (may_meet p.definitions) p.fields;
  agree = test_at do_agree p.fields;
  enters = λ a. is_in (members_at p a);
}
