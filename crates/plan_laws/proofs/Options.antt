-- Lemmas on what an answer that was given came from.
use Rattle.std.proofs.Common.{◌≡◌, refl, ℕ, zero, suc, Bool, true, false, List, [], ◌∷◌, ◌++◌, Option, Some, None, inl, inr, arith, if◌then◌else◌}
use Rattle.std.specs.Prelude.{option_map, option_and_then, find, is_some, filter_map, slice_get, bytes_eq}
use Rattle.std.proofs.lemmas.Slice.Eq.{bytes_eq-Decides}
use Rattle.gq_schema.specs.Scan.{or_else, first_in}
use Rattle.execution.specs.Loads.{IsOneOf}

-- texts are equal that are told to be
pub same-text : (q n : List ℕ) → bytes_eq q n ≡ true → q ≡ n
same-text q n e = (bytes_eq-Decides q n).0 e

pub own-text : (q : List ℕ) → bytes_eq q q ≡ true
own-text q = (bytes_eq-Decides q q).1 refl

-- what holds of nothing, and of each value that may be there
pub by_option : {A : Type 0} (P : Option A → Type 0) (o : Option A) → (o ≡ None → P None) → ((x : A) → o ≡ Some x → P (Some x)) → P o
by_option P None f g = f refl
by_option P (Some x) f g = g x refl

pub if-given : {A : Type 0} (b : Bool) (o : Option A) (x : A) → (if b then o else None) ≡ Some x → (b ≡ true) × (o ≡ Some x)
if-given b o x h = grind arith

pub if-not-given : {A : Type 0} (b : Bool) (o : Option A) (x : A) → (if b then None else o) ≡ Some x → (b ≡ false) × (o ≡ Some x)
if-not-given b o x h = grind arith

pub map-given : {A B : Type 0} (f : A → B) (o : Option A) (y : B) → option_map f o ≡ Some y → (x : A) × (o ≡ Some x) × (f x ≡ y)
map-given f o y h = grind arith

pub then-given : {A B : Type 0} (f : A → Option B) (o : Option A) (y : B) → option_and_then f o ≡ Some y → (x : A) × (o ≡ Some x) × (f x ≡ Some y)
then-given f o y h = grind arith

pub some-of : {A : Type 0} (o : Option A) → is_some o ≡ true → (x : A) × (o ≡ Some x)
some-of o h = grind arith

-- neither of two gives an answer
pub none-else : {A : Type 0} (o q : Option A) → or_else o q ≡ None → (o ≡ None) × (q ≡ None)
none-else o q h = grind arith

-- ---- elements of lists

-- the first of a list that passes is one of it
pub found-one : {A : Type 0} (test : A → Bool) (xs : List A) (x : A) → find test xs ≡ Some x → IsOneOf x xs × (test x ≡ true)
found-one test [] x h = absurd (cc h)
found-one test (y ∷ ys) x h = grind (arith, found-one test ys x)

pub got-one : {A : Type 0} (xs : List A) (i : ℕ) (x : A) → slice_get xs i ≡ Some x → IsOneOf x xs
got-one [] i x h = absurd (cc h)
got-one (y ∷ xs) zero x h = inl (cc)
got-one (y ∷ xs) (suc i) x h = inr (got-one xs i x h)

-- none of a list gives an answer
pub none-first : {A B : Type 0} (f : A → Option B) (xs : List A) (x : A) → first_in f xs ≡ None → IsOneOf x xs → f x ≡ None
none-first f [] x h i = absurd i
none-first f (y ∷ ys) x h i = grind (arith, none-first f ys x)

pub none-kept : {A B : Type 0} (f : A → Option B) (xs : List A) (x : A) → filter_map f xs ≡ [] → IsOneOf x xs → f x ≡ None
none-kept f [] x h i = absurd i
none-kept f (y ∷ ys) x h i = grind (arith, none-kept f ys x)

pub one-left : {A : Type 0} (xs ys : List A) (x : A) → IsOneOf x xs → IsOneOf x (xs ++ ys)
one-left [] ys x i = absurd i
one-left (z ∷ zs) ys x i = grind (arith, one-left zs ys x)

pub one-right : {A : Type 0} (xs ys : List A) (x : A) → IsOneOf x ys → IsOneOf x (xs ++ ys)
one-right [] ys x i = i
one-right (z ∷ zs) ys x i = inr (one-right zs ys x i)
