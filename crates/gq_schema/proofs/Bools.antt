-- Tests of texts.
use Rattle.std.proofs.Common.{◌≡◌, ◌∙◌, ap, ℕ, Bool, true, false, cond, ◌||◌, List, [], ◌∷◌, ◌++◌, map, bytes_eq, refl}
use Rattle.std.specs.List.{list_any}
use Rattle.std.proofs.lemmas.Cmp.{nat_list_eq_equiv}

pub or-cond : (b c : Bool) → cond b true c ≡ (b || c)
or-cond true c = refl
or-cond false c = refl

pub bytes_eq-symm : (xs ys : List ℕ) → bytes_eq xs ys ≡ bytes_eq ys xs
bytes_eq-symm = nat_list_eq_equiv.symm

-- a set's answer after a text was added
pub noted-text : (new old : Bool) (text name q : List ℕ) → text ≡ name → new ≡ cond (bytes_eq text q) true old → new ≡ (bytes_eq q name || old)
noted-text new old text name q same at =
    at ∙ (or-cond (bytes_eq text q) old ∙ (ap (λ b. b || old) (bytes_eq-symm text q) ∙ ap (λ (t : List ℕ). bytes_eq q t || old) same))

pub or-symm : (b c : Bool) → (b || c) ≡ (c || b)
or-symm true true = refl
or-symm true false = refl
or-symm false true = refl
or-symm false false = refl

pub list_any-push : {A B : Type 0} (p : B → Bool) (f : A → B) (xs : List A) (x : A) → list_any p (map f (xs ++ x ∷ [])) ≡ (p (f x) || list_any p (map f xs))
list_any-push p f [] x = refl
list_any-push p f (y ∷ ys) x = ap (λ b. p (f y) || b) (list_any-push p f ys x) ∙ or-swap (p (f y)) (p (f x)) (list_any p (map f ys)) where
  or-swap : (a b c : Bool) → (a || (b || c)) ≡ (b || (a || c))
  or-swap true true c = refl
  or-swap true false c = refl
  or-swap false true c = refl
  or-swap false false c = refl
