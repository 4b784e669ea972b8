-- The table of pairs sees what the rule sees.
use Rattle.std.proofs.Common.{◌≡◌, ◌∙◌, sym, ap, subst, refl, ℕ, zero, suc, ◌+◌, ◌<◌, Bool, true, false, ◌&&◌, ◌==◌, List, [], ◌∷◌, ◌++◌, map, length, Some, arith}
use Rattle.std.specs.Prelude.{slice_get, slice_index_or}
use Rattle.rules_parts.specs.Parts.{FieldPart, PartsOf}
use Rattle.merging_pairs.specs.declared.field.Field as table
use Rattle.merging_pairs.specs.Merging.{Fields}
use Rattle.merging_pairs.specs.Numbered as numbered
use Rattle.merging_pairs.specs.Numbered.{is_in}
use Rattle.merging_pairs.specs.Sets.{has}
use Rattle.merging_pairs.specs.Renumbered.{IsRenumbered}
use Rattle.merging_members.specs.Members.{members_below, members_of_fragment}
use Rattle.merging_members.specs.SetMembers.{to}
use Rattle.merging_fields.specs.declared.attributes.Attribute.{Attribute}
use Rattle.merging_fields.specs.declared.attributes.Attribute.TheVariants.{Key, Selected, Parent, Shape}
use Rattle.merging_fields.specs.Attributes.{are_same, number_of}
use Rattle.merging_fields.specs.Compare.{have_one_key, are_alike, may_meet, do_agree, same_parent}
use Rattle.merging_fields.specs.Members.{at, test_at, members_at, fields_of}
use Rattle.merging_fields.specs.Numbered.{IsNumbered, AreNumbered, IsInverse}
use Rattle.merging_fields.proofs.Classes.{number-same}

-- ---- by number

pub there : {A : Type 0} (xs : List A) (a : ℕ) → a < length xs → (x : A) × (slice_get xs a ≡ Some x)
there [] a h = absurd (omega arith)
there (x ∷ xs) zero h = (x, refl)
there (x ∷ xs) (suc a) h = there xs a (omega arith)

pub at-is : {A : Type 0} (g : FieldPart → A) (d : A) (fs : List FieldPart) (a : ℕ) (f : FieldPart) → slice_get fs a ≡ Some f → at g d fs a ≡ g f
at-is g d [] a f e = cc
at-is g d (x ∷ fs) zero f e = let same : x ≡ f = cc in ap g same
at-is g d (x ∷ fs) (suc a) f e = at-is g d fs a f e

pub test-is : (t : FieldPart → FieldPart → Bool) (fs : List FieldPart) (a b : ℕ) (f g : FieldPart) → slice_get fs a ≡ Some f → slice_get fs b ≡ Some g → test_at t fs a b ≡ t f g
test-is t fs a b f g ha hb = at-is (λ x. at (t x) false fs b) false fs a f ha ∙ at-is (t f) false fs b g hb

pub table-is : {A : Type 0} (g : table.Field → A) (d : A) (xs : List table.Field) (i : ℕ) (x : table.Field) → slice_get xs i ≡ Some x → numbered.at g d xs i ≡ g x
table-is g d [] i x e = cc
table-is g d (y ∷ xs) zero x e = let same : y ≡ x = cc in ap g same
table-is g d (y ∷ xs) (suc i) x e = table-is g d xs i x e

table-test : (t : table.Field → table.Field → Bool) (xs : List table.Field) (i k : ℕ) (x y : table.Field) → slice_get xs i ≡ Some x → slice_get xs k ≡ Some y → numbered.test_at t xs i k ≡ t x y
table-test t xs i k x y hi hk = table-is (λ z. numbered.at (t z) false xs k) false xs i x hi ∙ table-is (t x) false xs k y hk

-- ---- tables

pub numbered-push : (p : PartsOf) (numbers : List ℕ) (spread : List ℕ → List ℕ) (order : List ℕ) (xs : List table.Field) (a : ℕ) (x : table.Field) → AreNumbered p numbers spread order xs
    → ((f : FieldPart) → slice_get p.fields a ≡ Some f → IsNumbered p numbers spread a f x) → AreNumbered p numbers spread (order ++ a ∷ []) (xs ++ x ∷ [])
numbered-push p numbers spread [] [] a x are is = (is, tt)
numbered-push p numbers spread (b ∷ order) (y ∷ xs) a x are is = (are.0, numbered-push p numbers spread order xs a x are.1 is)
numbered-push p numbers spread [] (y ∷ xs) a x are is = absurd are
numbered-push p numbers spread (b ∷ order) [] a x are is = absurd are

-- the field of the table at a place of the order
pub found : (p : PartsOf) (numbers : List ℕ) (spread : List ℕ → List ℕ) (order : List ℕ) (xs : List table.Field) (i a : ℕ) (f : FieldPart) → AreNumbered p numbers spread order xs
    → slice_get order i ≡ Some a → slice_get p.fields a ≡ Some f → (x : table.Field) × (slice_get xs i ≡ Some x) × IsNumbered p numbers spread a f x
found p numbers spread [] [] i a f are e h = cc
found p numbers spread (b ∷ order) (y ∷ xs) zero a f are e h = let same : a ≡ b = cc in (y, refl, subst (λ (n : ℕ). IsNumbered p numbers spread n f y) (sym same) (are.0 f (subst (λ (n : ℕ). slice_get p.fields n ≡ Some f) same h)))
found p numbers spread (b ∷ order) (y ∷ xs) (suc i) a f are e h = found p numbers spread order xs i a f are.1 e h
found p numbers spread [] (y ∷ xs) i a f are e h = absurd are
found p numbers spread (b ∷ order) [] i a f are e h = absurd are

agree-both : (s t u : Bool) → (u ≡ true → s ≡ true) → t ≡ u → (s && t) ≡ u
agree-both true t u h e = e
agree-both false t true h e = h refl
agree-both false t false h e = refl

module _ (p : PartsOf) (numbers order : List ℕ) (xs : List table.Field) (are : AreNumbered p numbers (members_of_fragment p.document) order xs) (inverse : IsInverse order numbers (length p.fields)) where
  D : Fields ℕ
  D = fields_of p

  E : Fields ℕ
  E = numbered.fields_of xs

  -- a field of the document and the one of the table that stands for it
  record Twin (a : ℕ) : Type 0 where
    field : FieldPart
    here : slice_get p.fields a ≡ Some field
    twin : table.Field
    placed : slice_get xs (to numbers a) ≡ Some twin
    is : IsNumbered p numbers (members_of_fragment p.document) a field twin

  twin-of : (a : ℕ) → a < length p.fields → Twin a
  twin-of a h =
      let f = there p.fields a h in
      let x = found p numbers (members_of_fragment p.document) order xs (to numbers a) a f.0 are (inverse a h) f.1 in
      record { field = f.0; here = f.1; twin = x.0; placed = x.1; is = x.2 }

  attribute-same : (attribute : Attribute) (a b : ℕ) (s : Twin a) (t : Twin b) (n m : ℕ) → n ≡ number_of attribute p.definitions p.fields s.field → m ≡ number_of attribute p.definitions p.fields t.field
      → (n == m) ≡ are_same attribute p.definitions s.field t.field
  attribute-same attribute a b s t n m e f = rw (e, f) (number-same attribute p.definitions p.fields s.field t.field a b s.here t.here)

  keys : (a b : ℕ) → a < length p.fields → b < length p.fields → numbered.test_at numbered.have_one_key xs (to numbers a) (to numbers b) ≡ test_at have_one_key p.fields a b
  keys a b ha hb =
      let s = twin-of a ha in let t = twin-of b hb in
      table-test numbered.have_one_key xs (to numbers a) (to numbers b) s.twin t.twin s.placed t.placed
      ∙ (attribute-same Key a b s t s.twin.key t.twin.key s.is.key t.is.key ∙ sym (test-is have_one_key p.fields a b s.field t.field s.here t.here))

  shapes : (a b : ℕ) → a < length p.fields → b < length p.fields → numbered.test_at numbered.are_alike xs (to numbers a) (to numbers b) ≡ test_at (are_alike p.definitions) p.fields a b
  shapes a b ha hb =
      let s = twin-of a ha in let t = twin-of b hb in
      table-test numbered.are_alike xs (to numbers a) (to numbers b) s.twin t.twin s.placed t.placed
      ∙ (attribute-same Shape a b s t s.twin.shape t.twin.shape s.is.shape t.is.shape ∙ sym (test-is (are_alike p.definitions) p.fields a b s.field t.field s.here t.here))

  meets : (a b : ℕ) → a < length p.fields → b < length p.fields → numbered.test_at numbered.may_meet xs (to numbers a) (to numbers b) ≡ test_at (may_meet p.definitions) p.fields a b
  meets a b ha hb =
      let s = twin-of a ha in let t = twin-of b hb in
      let parents : (s.twin.parent == t.twin.parent) ≡ same_parent s.field.parent t.field.parent = attribute-same Parent a b s t s.twin.parent t.twin.parent s.is.parent t.is.parent in
      table-test numbered.may_meet xs (to numbers a) (to numbers b) s.twin t.twin s.placed t.placed
      ∙ (rw (parents, s.is.object, t.is.object) (sym (test-is (may_meet p.definitions) p.fields a b s.field t.field s.here t.here)))

  agrees : (a b : ℕ) → a < length p.fields → b < length p.fields → numbered.test_at numbered.do_agree xs (to numbers a) (to numbers b) ≡ test_at do_agree p.fields a b
  agrees a b ha hb =
      let s = twin-of a ha in let t = twin-of b hb in
      let selected : (s.twin.name == t.twin.name) ≡ do_agree s.field t.field = attribute-same Selected a b s t s.twin.name t.twin.name s.is.name t.is.name in
      let none : (s.twin.arguments == t.twin.arguments) ≡ true = rw (s.is.arguments, t.is.arguments) refl in
      table-test numbered.do_agree xs (to numbers a) (to numbers b) s.twin t.twin s.placed t.placed
      ∙ (rw (selected, none) (and-true (do_agree s.field t.field)) ∙ sym (test-is do_agree p.fields a b s.field t.field s.here t.here))
    where
      and-true : (s : Bool) → (s && true) ≡ s
      and-true true = refl
      and-true false = refl

  entered : (a i : ℕ) → a < length p.fields → has (numbered.members_at xs (to numbers a)) i ≡ is_in (map (to numbers) (members_at p a)) i
  entered a i h =
      let s = twin-of a h in
      ap (λ (r : List ℕ). has r i) (table-is (λ x. x.members) [] xs (to numbers a) s.twin s.placed)
      ∙ (s.is.members i ∙ ap (λ (ms : List ℕ). is_in (map (to numbers) ms) i) (sym (at-is (λ f. members_below (members_of_fragment p.document) (a + 1) f.below) [] p.fields a s.field s.here)))

  -- says where the table has a place for each field, and the members of fields are fields
  pub renumbers : ((a : ℕ) → a < length p.fields → to numbers a < length p.fields) → ((a c : ℕ) → a < length p.fields → is_in (members_at p a) c ≡ true → c < length p.fields)
      → IsRenumbered (fields_of p) (numbered.fields_of xs) (length p.fields) (to numbers) (λ i. slice_index_or order i 0) (members_at p)
  renumbers below known = record {
    there = below;
    back = λ a h. index-of order (to numbers a) a (inverse a h);
    one_key = keys;
    alike = shapes;
    meet = meets;
    agree = agrees;
    known = known;
    own = λ a c h. refl;
    enters = entered;
  }
    where
      index-of : (ys : List ℕ) (i y : ℕ) → slice_get ys i ≡ Some y → slice_index_or ys i 0 ≡ y
      index-of [] i y e = cc
      index-of (z ∷ ys) zero y e = cc
      index-of (z ∷ ys) (suc i) y e = index-of ys i y e
