-- Fields that are the same in an attribute have one number, and no others.
use Rattle.std.proofs.Common.{◌≡◌, ◌∙◌, sym, ap, subst, refl, ℕ, zero, suc, ◌+◌, Bool, true, false, ◌||◌, ◌&&◌, ◌==◌, cond, List, [], ◌∷◌, Option, Some, None, bytes_eq, inl, inr, arith}
use Rattle.std.specs.Prelude.{slice_get, unwrap_or}
use Rattle.std.proofs.lemmas.Bool.{and_parts, and_from, or_cases, or_left, or_right, eqb-true, eq-eqb}
use Rattle.std.proofs.lemmas.Slice.Eq.{bytes_eq-Decides}
use Rattle.gq_parser.specs.Tree.{TypeTree, Named, ListOf}
use Rattle.schema_syntax.specs.Tree.{Definition}
use Rattle.gq_schema.specs.Places.{place_from}
use Rattle.rules_parts.specs.Parts.{FieldPart}
use Rattle.merging_pairs.proofs.ClashLaws.{both-true}
use Rattle.merging_arguments.specs.Same.{same_bool, same_arguments}
use Rattle.merging_arguments.proofs.Equivalence.{text-refl, text-trans, arguments-refl, arguments-sym, arguments-trans}
use Rattle.merging_fields.specs.Compare.{is_composite, same_shape, return_type, response_key, same_parent}
use Rattle.merging_fields.specs.declared.attributes.Attribute.{Attribute}
use Rattle.merging_fields.specs.declared.attributes.Attribute.TheVariants.{Key, Selected, Parent, Shape}
use Rattle.merging_fields.specs.Attributes.{are_same, number_of}

-- ---- numbers by the first that is the same

pub record IsSame {A : Type 0} (same : A → A → Bool) : Type 0 where
  pub own : (x : A) → same x x ≡ true
  pub swap : (x y : A) → same x y ≡ same y x
  pub third : (x y z : A) → same x y ≡ true → same y z ≡ true → same x z ≡ true

record Hit {A : Type 0} (n : ℕ) (test : A → Bool) (xs : List A) (j : ℕ) : Type 0 where
  place : ℕ
  one : A
  at : j ≡ n + place
  here : slice_get xs place ≡ Some one
  passes : test one ≡ true

hit : {A : Type 0} (n : ℕ) (test : A → Bool) (xs : List A) (j : ℕ) → place_from n test xs ≡ Some j → Hit n test xs j
hit n test [] j e = cc
hit n test (x ∷ xs) j e = go (test x) refl e (hit (n + 1) test xs j)
  where
    go : (t : Bool) → test x ≡ t → cond t (Some n) (place_from (n + 1) test xs) ≡ Some j → (place_from (n + 1) test xs ≡ Some j → Hit (n + 1) test xs j) → Hit n test (x ∷ xs) j
    go true p h rest = let same : n ≡ j = cc in record { place = 0; one = x; at = omega (arith, same); here = refl; passes = p }
    go false p h rest = let r = rest h in let at = r.at in record { place = suc r.place; one = r.one; at = omega (arith, at); here = r.here; passes = r.passes }

some-hit : {A : Type 0} (n : ℕ) (test : A → Bool) (xs : List A) (i : ℕ) (z : A) → slice_get xs i ≡ Some z → test z ≡ true → (j : ℕ) × (place_from n test xs ≡ Some j)
some-hit n test [] i z e p = cc
some-hit n test (x ∷ xs) zero z e p = let same : z ≡ x = cc in (n, rw (subst (λ y. test y ≡ true) same p) refl)
some-hit n test (x ∷ xs) (suc i) z e p = go (test x) (some-hit (n + 1) test xs i z e p)
  where
    go : (t : Bool) → (j : ℕ) × (place_from (n + 1) test xs ≡ Some j) → (j : ℕ) × (cond t (Some n) (place_from (n + 1) test xs) ≡ Some j)
    go true rest = (n, refl)
    go false rest = rest

same-place : {A : Type 0} (n : ℕ) (f g : A → Bool) (xs : List A) → ((z : A) → f z ≡ g z) → place_from n f xs ≡ place_from n g xs
same-place n f g [] h = refl
same-place n f g (x ∷ xs) h = rw (h x, same-place (n + 1) f g xs h) refl

module _ {A : Type 0} (same : A → A → Bool) (is : IsSame same) (xs : List A) where
  first : A → ℕ
  first x = unwrap_or (place_from 0 (same x) xs) 0

  one-class : (x y : A) → same x y ≡ true → place_from 0 (same x) xs ≡ place_from 0 (same y) xs
  one-class x y e = same-place 0 (same x) (same y) xs (λ z. both-true (same x z) (same y z) (λ h. is.third y x z (is.swap y x ∙ e) h) (λ h. is.third x y z e h))

  apart : (x y : A) (i k : ℕ) → slice_get xs i ≡ Some x → slice_get xs k ≡ Some y → unwrap_or (place_from 0 (same x) xs) 0 ≡ unwrap_or (place_from 0 (same y) xs) 0 → same x y ≡ true
  apart x y i k hx hy e = meet (some-hit 0 (same x) xs i x hx (is.own x)) (some-hit 0 (same y) xs k y hy (is.own y))
    where
      one : (j : ℕ) → Hit 0 (same x) xs j → Hit 0 (same y) xs j → same x y ≡ true
      one j a b =
          let p = a.at in let q = b.at in
          let places : a.place ≡ b.place = omega (arith, p, q) in
          let G : ℕ → Type 0 = λ m. slice_get xs m ≡ Some a.one in
          let there : slice_get xs b.place ≡ Some a.one = subst G places a.here in
          let h = b.here in
          let ones : b.one ≡ a.one = cc in
          is.third x a.one y a.passes (is.swap a.one y ∙ subst (λ z. same y z ≡ true) ones b.passes)

      meet : (j : ℕ) × (place_from 0 (same x) xs ≡ Some j) → (m : ℕ) × (place_from 0 (same y) xs ≡ Some m) → same x y ≡ true
      meet a b =
          let p = a.1 in let q = b.1 in
          let equal : a.0 ≡ b.0 = sym (ap (λ (o : Option ℕ). unwrap_or o 0) p) ∙ (e ∙ ap (λ (o : Option ℕ). unwrap_or o 0) q) in
          one a.0 (hit 0 (same x) xs a.0 p) (hit 0 (same y) xs a.0 (q ∙ ap Some (sym equal)))

  pub class-same : (x y : A) (i k : ℕ) → slice_get xs i ≡ Some x → slice_get xs k ≡ Some y → (unwrap_or (place_from 0 (same x) xs) 0 == unwrap_or (place_from 0 (same y) xs) 0) ≡ same x y
  class-same x y i k hx hy = both-true _ (same x y)
      (λ e. apart x y i k hx hy (eqb-true _ _ e))
      (λ e. eq-eqb _ _ (ap (λ (o : Option ℕ). unwrap_or o 0) (one-class x y e)))

-- ---- the attributes

text-swap : (n m : List ℕ) → bytes_eq n m ≡ bytes_eq m n
text-swap n m = both-true (bytes_eq n m) (bytes_eq m n) (λ e. (bytes_eq-Decides m n).1 (sym ((bytes_eq-Decides n m).0 e))) (λ e. (bytes_eq-Decides n m).1 (sym ((bytes_eq-Decides m n).0 e)))

pub same-key : IsSame (are_same Key [])
same-key = record {
  own = λ x. text-refl (response_key x);
  swap = λ x y. text-swap (response_key x) (response_key y);
  third = λ x y z. text-trans (response_key x) (response_key y) (response_key z);
}

swap-two : (a b c d : Bool) → a ≡ b → c ≡ d → (a && c) ≡ (b && d)
swap-two a b c d e f = rw (e, f) refl

selected-third : (x y z : FieldPart) → are_same Selected [] x y ≡ true → are_same Selected [] y z ≡ true → are_same Selected [] x z ≡ true
selected-third x y z e f =
    let p = and_parts (bytes_eq x.name y.name) (same_arguments x.arguments y.arguments) e in
    let q = and_parts (bytes_eq y.name z.name) (same_arguments y.arguments z.arguments) f in
    and_from (bytes_eq x.name z.name) (same_arguments x.arguments z.arguments) (text-trans x.name y.name z.name p.0 q.0) (arguments-trans x.arguments y.arguments z.arguments p.1 q.1)

pub same-selected : IsSame (are_same Selected [])
same-selected = record {
  own = λ x. and_from (bytes_eq x.name x.name) (same_arguments x.arguments x.arguments) (text-refl x.name) (arguments-refl x.arguments);
  swap = λ x y. swap-two _ _ _ _ (text-swap x.name y.name) (arguments-sym x.arguments y.arguments);
  third = selected-third;
}

parent-own : (o : Option (List ℕ)) → same_parent o o ≡ true
parent-own None = refl
parent-own (Some n) = text-refl n

parent-swap : (o p : Option (List ℕ)) → same_parent o p ≡ same_parent p o
parent-swap None None = refl
parent-swap None (Some m) = refl
parent-swap (Some n) None = refl
parent-swap (Some n) (Some m) = text-swap n m

parent-third : (o p q : Option (List ℕ)) → same_parent o p ≡ true → same_parent p q ≡ true → same_parent o q ≡ true
parent-third None None None e f = refl
parent-third (Some n) (Some m) (Some k) e f = text-trans n m k e f
parent-third _ _ _ e f = cc

pub same-parents : IsSame (are_same Parent [])
same-parents = record {
  own = λ x. parent-own x.parent;
  swap = λ x y. parent-swap x.parent y.parent;
  third = λ x y z. parent-third x.parent y.parent z.parent;
}

module _ (defs : List Definition) where
  bool-own : (b : Bool) → same_bool b b ≡ true
  bool-own true = refl
  bool-own false = refl

  bool-swap : (b c : Bool) → same_bool b c ≡ same_bool c b
  bool-swap true true = refl
  bool-swap true false = refl
  bool-swap false true = refl
  bool-swap false false = refl

  bool-third : (a b c : Bool) → same_bool a b ≡ true → same_bool b c ≡ true → same_bool a c ≡ true
  bool-third true true c e f = f
  bool-third false false c e f = f
  bool-third true false c e f = cc
  bool-third false true c e f = cc

  names : List ℕ → List ℕ → Bool
  names n m = bytes_eq n m || (is_composite defs n && is_composite defs m)

  names-own : (n : List ℕ) → (bytes_eq n n || (is_composite defs n && is_composite defs n)) ≡ true
  names-own n = or_left (bytes_eq n n) (is_composite defs n && is_composite defs n) (text-refl n)

  swap-and : (s t : Bool) → (s && t) ≡ (t && s)
  swap-and true true = refl
  swap-and true false = refl
  swap-and false true = refl
  swap-and false false = refl

  names-swap : (n m : List ℕ) → (bytes_eq n m || (is_composite defs n && is_composite defs m)) ≡ (bytes_eq m n || (is_composite defs m && is_composite defs n))
  names-swap n m = rw (text-swap n m, swap-and (is_composite defs n) (is_composite defs m)) refl

  names-third : (n m k : List ℕ) → (bytes_eq n m || (is_composite defs n && is_composite defs m)) ≡ true → (bytes_eq m k || (is_composite defs m && is_composite defs k)) ≡ true → (bytes_eq n k || (is_composite defs n && is_composite defs k)) ≡ true
  names-third n m k e f = elim (or_cases (bytes_eq n m) (is_composite defs n && is_composite defs m) e) [
    | inl h ↦ rw ((bytes_eq-Decides n m).0 h) f
    | inr h ↦ elim (or_cases (bytes_eq m k) (is_composite defs m && is_composite defs k) f) [
      | inl i ↦ or_right (bytes_eq n k) (is_composite defs n && is_composite defs k) (rw (← (bytes_eq-Decides m k).0 i) h)
      | inr i ↦ or_right (bytes_eq n k) (is_composite defs n && is_composite defs k) (and_from (is_composite defs n) (is_composite defs k) (and_parts (is_composite defs n) (is_composite defs m) h).0 (and_parts (is_composite defs m) (is_composite defs k) i).1)
    ]
  ]

  shape-own : (t : TypeTree) → same_shape defs t t ≡ true
  shape-own (Named p n b) = and_from (same_bool b b) _ (bool-own b) (names-own n)
  shape-own (ListOf p t b) = and_from (same_bool b b) (same_shape defs t t) (bool-own b) (shape-own t)

  shape-swap : (t u : TypeTree) → same_shape defs t u ≡ same_shape defs u t
  shape-swap (Named p n b) (Named q m c) = swap-two _ _ _ _ (bool-swap b c) (names-swap n m)
  shape-swap (Named p n b) (ListOf q u c) = refl
  shape-swap (ListOf p t b) (Named q m c) = refl
  shape-swap (ListOf p t b) (ListOf q u c) = swap-two _ _ _ _ (bool-swap b c) (shape-swap t u)

  shape-third : (t u v : TypeTree) → same_shape defs t u ≡ true → same_shape defs u v ≡ true → same_shape defs t v ≡ true
  shape-third (Named p n b) (Named q m c) (Named r k d) e f =
      let g = and_parts (same_bool b c) (bytes_eq n m || (is_composite defs n && is_composite defs m)) e in
      let h = and_parts (same_bool c d) (bytes_eq m k || (is_composite defs m && is_composite defs k)) f in
      and_from (same_bool b d) (bytes_eq n k || (is_composite defs n && is_composite defs k)) (bool-third b c d g.0 h.0) (names-third n m k g.1 h.1)
  shape-third (ListOf p t b) (ListOf q u c) (ListOf r v d) e f =
      let g = and_parts (same_bool b c) (same_shape defs t u) e in
      let h = and_parts (same_bool c d) (same_shape defs u v) f in
      and_from (same_bool b d) (same_shape defs t v) (bool-third b c d g.0 h.0) (shape-third t u v g.1 h.1)
  shape-third _ _ _ e f = cc

  pub same-shape : IsSame (are_same Shape defs)
  same-shape = record {
    own = λ x. shape-own (return_type x);
    swap = λ x y. shape-swap (return_type x) (return_type y);
    third = λ x y z. shape-third (return_type x) (return_type y) (return_type z);
  }

  pub same-attribute : (attribute : Attribute) → IsSame (are_same attribute defs)
  same-attribute Key = same-key
  same-attribute Selected = same-selected
  same-attribute Parent = same-parents
  same-attribute Shape = same-shape

-- equal numbers stand for what is the same
pub number-same : (attribute : Attribute) (defs : List Definition) (fields : List FieldPart) (x y : FieldPart) (i k : ℕ) → slice_get fields i ≡ Some x → slice_get fields k ≡ Some y
    → (number_of attribute defs fields x == number_of attribute defs fields y) ≡ are_same attribute defs x y
number-same attribute defs fields x y i k hx hy = class-same (are_same attribute defs) (same-attribute defs attribute) fields x y i k hx hy
