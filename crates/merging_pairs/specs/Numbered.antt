-- The fields of a document by their numbers.
use Rattle.std.specs.Prelude.{◌≡◌, ℕ, zero, suc, ◌<◌, Bool, true, false, ◌||◌, ◌&&◌, not, ◌==◌, List, [], ◌∷◌}
use Rattle.merging_pairs.specs.declared.field.Field.{Field}
use Rattle.merging_pairs.specs.Sets.{has}
use Rattle.merging_pairs.specs.Merging.{Fields}

-- ---- two fields

abbrev pub have_one_key : Field → Field → Bool
have_one_key x y = x.key == y.key

abbrev pub are_alike : Field → Field → Bool
are_alike x y = x.shape == y.shape

abbrev pub may_meet : Field → Field → Bool
may_meet x y = (x.parent == y.parent) || (not x.object || not y.object)

abbrev pub do_agree : Field → Field → Bool
do_agree x y = (x.name == y.name) && (x.arguments == y.arguments)

-- ---- by number

-- gives what the field of a number says
abbrev pub at : {A : Type 0} → (Field → A) → A → List Field → ℕ → A
at g d [] n = d
at g d (f ∷ fs) zero = g f
at g d (f ∷ fs) (suc n) = at g d fs n

-- gives what a test says of the fields of two numbers
abbrev pub test_at : (Field → Field → Bool) → List Field → ℕ → ℕ → Bool
test_at t fields a b = at (λ x. at (t x) false fields b) false fields a

abbrev pub members_at : List Field → ℕ → List ℕ
members_at fields = at (λ f. f.members) [] fields

abbrev pub fields_of : List Field → Fields ℕ
fields_of fields = record {
  one_key = test_at have_one_key fields;
  alike = test_at are_alike fields;
  meet = test_at may_meet fields;
  agree = test_at do_agree fields;
  enters = λ a. has (members_at fields a);
}

-- says what a field's selection set enters comes before the field
abbrev pub AreInOrder : List Field → Type 0
AreInOrder fields = (b c : ℕ) → (fields_of fields).enters b c ≡ true → c < b

-- a number stands in a list
abbrev pub is_in : List ℕ → ℕ → Bool
is_in [] x = false
is_in (y ∷ ys) x = (x == y) || is_in ys x
