-- To be the same is an equivalence.
use Rattle.std.proofs.Common.{◌≡◌, ◌∙◌, refl, ℕ, Bool, true, false, ◌||◌, ◌&&◌, List, [], ◌∷◌, bytes_eq, ◌⊎◌, inl, inr}
use Rattle.std.proofs.lemmas.Bool.{or_cases, or_left, or_right, and_parts, and_from, both_ways}
use Rattle.std.proofs.lemmas.Slice.Eq.{bytes_eq-Decides}
use Rattle.gq_parser.specs.Tree.{Argument, Value, Variable, Int, Float, Text, Boolean, Null, Enum, Array, Object, Values, no_value, and_value, Members, no_member, and_member}
use Rattle.merging_arguments.specs.Same.{same_bool, same_value, same_values, same_members, same_argument, is_given, are_given, same_arguments}

pub text-refl : (n : List ℕ) → bytes_eq n n ≡ true
text-refl n = (bytes_eq-Decides n n).1 refl

pub text-trans : (n m k : List ℕ) → bytes_eq n m ≡ true → bytes_eq m k ≡ true → bytes_eq n k ≡ true
text-trans n m k e f = (bytes_eq-Decides n k).1 ((bytes_eq-Decides n m).0 e ∙ (bytes_eq-Decides m k).0 f)

bool-refl : (b : Bool) → same_bool b b ≡ true
bool-refl true = refl
bool-refl false = refl

bool-trans : (a b c : Bool) → same_bool a b ≡ true → same_bool b c ≡ true → same_bool a c ≡ true
bool-trans true true c e f = f
bool-trans true false c e f = absurd (both_ways false refl e)
bool-trans false true c e f = absurd (both_ways false refl e)
bool-trans false false c e f = f

mutual
  value-refl : (v : Value) → same_value v v ≡ true
  value-refl (Variable p n) = text-refl n
  value-refl (Int p n) = text-refl n
  value-refl (Float p n) = text-refl n
  value-refl (Text p n) = text-refl n
  value-refl (Boolean p b) = bool-refl b
  value-refl (Null p) = refl
  value-refl (Enum p n) = text-refl n
  value-refl (Array p vs) = values-refl vs
  value-refl (Object p ms) = members-refl ms

  values-refl : (vs : Values) → same_values vs vs ≡ true
  values-refl no_value = refl
  values-refl (and_value v vs) = and_from (same_value v v) (same_values vs vs) (value-refl v) (values-refl vs)

  members-refl : (ms : Members) → same_members ms ms ≡ true
  members-refl no_member = refl
  members-refl (and_member p n v ms) = and_from (bytes_eq n n) (same_value v v && same_members ms ms) (text-refl n) (and_from (same_value v v) (same_members ms ms) (value-refl v) (members-refl ms))

mutual
  value-trans : (u v w : Value) → same_value u v ≡ true → same_value v w ≡ true → same_value u w ≡ true
  value-trans (Variable p n) (Variable q m) (Variable r k) e f = text-trans n m k e f
  value-trans (Int p n) (Int q m) (Int r k) e f = text-trans n m k e f
  value-trans (Float p n) (Float q m) (Float r k) e f = text-trans n m k e f
  value-trans (Text p n) (Text q m) (Text r k) e f = text-trans n m k e f
  value-trans (Boolean p a) (Boolean q b) (Boolean r c) e f = bool-trans a b c e f
  value-trans (Null p) (Null q) (Null r) e f = refl
  value-trans (Enum p n) (Enum q m) (Enum r k) e f = text-trans n m k e f
  value-trans (Array p us) (Array q vs) (Array r ws) e f = values-trans us vs ws e f
  value-trans (Object p ls) (Object q ms) (Object r ns) e f = members-trans ls ms ns e f
  value-trans _ _ _ e f = cc

  values-trans : (us vs ws : Values) → same_values us vs ≡ true → same_values vs ws ≡ true → same_values us ws ≡ true
  values-trans no_value no_value no_value e f = refl
  values-trans (and_value u us) (and_value v vs) (and_value w ws) e f =
      let g = and_parts (same_value u v) (same_values us vs) e in
      let h = and_parts (same_value v w) (same_values vs ws) f in
      and_from (same_value u w) (same_values us ws) (value-trans u v w g.0 h.0) (values-trans us vs ws g.1 h.1)
  values-trans _ _ _ e f = cc

  members-trans : (ls ms ns : Members) → same_members ls ms ≡ true → same_members ms ns ≡ true → same_members ls ns ≡ true
  members-trans no_member no_member no_member e f = refl
  members-trans (and_member o k u ls) (and_member p m v ms) (and_member q n w ns) e f =
      let g = and_parts (bytes_eq k m) (same_value u v && same_members ls ms) e in
      let h = and_parts (bytes_eq m n) (same_value v w && same_members ms ns) f in
      let i = and_parts (same_value u v) (same_members ls ms) g.1 in
      let j = and_parts (same_value v w) (same_members ms ns) h.1 in
      and_from (bytes_eq k n) (same_value u w && same_members ls ns) (text-trans k m n g.0 h.0)
      (and_from (same_value u w) (same_members ls ns) (value-trans u v w i.0 j.0) (members-trans ls ms ns i.1 j.1))
  members-trans _ _ _ e f = cc

argument-refl : (a : Argument) → same_argument a a ≡ true
argument-refl a = and_from (bytes_eq a.name a.name) (same_value a.value a.value) (text-refl a.name) (value-refl a.value)

argument-trans : (a b c : Argument) → same_argument a b ≡ true → same_argument b c ≡ true → same_argument a c ≡ true
argument-trans a b c e f =
    let g = and_parts (bytes_eq a.name b.name) (same_value a.value b.value) e in
    let h = and_parts (bytes_eq b.name c.name) (same_value b.value c.value) f in
    and_from (bytes_eq a.name c.name) (same_value a.value c.value) (text-trans a.name b.name c.name g.0 h.0) (value-trans a.value b.value c.value g.1 h.1)

-- ---- sets

given-more : (x : Argument) (xs as' : List Argument) → are_given as' xs ≡ true → are_given as' (x ∷ xs) ≡ true
given-more x xs [] e = refl
given-more x xs (a ∷ as') e =
    let p = and_parts (is_given xs a) (are_given as' xs) e in
    and_from (is_given (x ∷ xs) a) (are_given as' (x ∷ xs)) (or_right (same_argument a x) (is_given xs a) p.0) (given-more x xs as' p.1)

given-refl : (xs : List Argument) → are_given xs xs ≡ true
given-refl [] = refl
given-refl (x ∷ xs) = and_from (is_given (x ∷ xs) x) (are_given xs (x ∷ xs)) (or_left (same_argument x x) (is_given xs x) (argument-refl x)) (given-more x xs xs (given-refl xs))

-- an argument that is given among these is given among others, where all of these are
one-given : (a : Argument) (bs cs : List Argument) → is_given bs a ≡ true → are_given bs cs ≡ true → is_given cs a ≡ true
one-given a [] cs e f = absurd (both_ways false refl e)
one-given a (b ∷ bs) cs e f =
    let p = and_parts (is_given cs b) (are_given bs cs) f in
    elim (or_cases (same_argument a b) (is_given bs a) e) [
      | inl h ↦ among cs h p.0
      | inr h ↦ one-given a bs cs h p.1
    ]
  where
    among : (ds : List Argument) → same_argument a b ≡ true → is_given ds b ≡ true → is_given ds a ≡ true
    among [] h k = absurd (both_ways false refl k)
    among (d ∷ ds) h k = elim (or_cases (same_argument b d) (is_given ds b) k) [
      | inl i ↦ or_left (same_argument a d) (is_given ds a) (argument-trans a b d h i)
      | inr i ↦ or_right (same_argument a d) (is_given ds a) (among ds h i)
    ]

given-trans : (as' bs cs : List Argument) → are_given as' bs ≡ true → are_given bs cs ≡ true → are_given as' cs ≡ true
given-trans [] bs cs e f = refl
given-trans (a ∷ as') bs cs e f =
    let p = and_parts (is_given bs a) (are_given as' bs) e in
    and_from (is_given cs a) (are_given as' cs) (one-given a bs cs p.0 f) (given-trans as' bs cs p.1 f)

pub arguments-refl : (xs : List Argument) → same_arguments xs xs ≡ true
arguments-refl xs = and_from (are_given xs xs) (are_given xs xs) (given-refl xs) (given-refl xs)

swap-and : (s t : Bool) → (s && t) ≡ (t && s)
swap-and true true = refl
swap-and true false = refl
swap-and false true = refl
swap-and false false = refl

pub arguments-sym : (xs ys : List Argument) → same_arguments xs ys ≡ same_arguments ys xs
arguments-sym xs ys = swap-and (are_given xs ys) (are_given ys xs)

pub arguments-trans : (xs ys zs : List Argument) → same_arguments xs ys ≡ true → same_arguments ys zs ≡ true → same_arguments xs zs ≡ true
arguments-trans xs ys zs e f =
    let p = and_parts (are_given xs ys) (are_given ys xs) e in
    let q = and_parts (are_given ys zs) (are_given zs ys) f in
    and_from (are_given xs zs) (are_given zs xs) (given-trans xs ys zs p.0 q.0) (given-trans zs ys xs q.1 p.1)
