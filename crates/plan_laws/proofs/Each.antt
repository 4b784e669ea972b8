-- Laws of each element of a list, by recursion, and of a value that may be there, and what keeps them.
use Rattle.std.proofs.Common.{Bool, List, [], ◌∷◌, ◌++◌, map, Option, Some, None}
use Rattle.std.proofs.lemmas.Bool.{cond_both}
use Rattle.std.specs.List.{filter, filter_map, flat_map, find, cons_option}
use Rattle.std.specs.Option.{option_map, option_and_then}

abbrev pub Each : {A : Type 0} → (A → Type 0) → List A → Type 0
Each P [] = Unit {0}
Each P (x ∷ xs) = P x × Each P xs

abbrev pub Maybe : {A : Type 0} → (A → Type 0) → Option A → Type 0
Maybe P None = Unit {0}
Maybe P (Some x) = P x

module _ {A : Type 0} (P : A → Type 0) where
  pub each-append : (xs ys : List A) → Each P xs → Each P ys → Each P (xs ++ ys)
  each-append [] ys p q = q
  each-append (x ∷ xs) ys p q = (p.0, each-append xs ys p.1 q)

  pub each-filter : (f : A → Bool) (xs : List A) → Each P xs → Each P (filter f xs)
  each-filter f [] p = tt
  each-filter f (x ∷ xs) p = let rest = each-filter f xs p.1 in cond_both (f x) _ _ (Each P) (λ _. (p.0, rest)) (λ _. rest)

  pub each-find : (f : A → Bool) (xs : List A) → Each P xs → Maybe P (find f xs)
  each-find f [] p = tt
  each-find f (x ∷ xs) p = cond_both (f x) _ _ (Maybe P) (λ _. p.0) (λ _. each-find f xs p.1)

  pub maybe-weaker : (Q : A → Type 0) (o : Option A) → ((x : A) → P x → Q x) → Maybe P o → Maybe Q o
  maybe-weaker Q None h p = tt
  maybe-weaker Q (Some x) h p = h x p

module _ {A B : Type 0} (Q : B → Type 0) where
  pub any-map : (f : A → B) (o : Option A) → ((x : A) → Q (f x)) → Maybe Q (option_map f o)
  any-map f None h = tt
  any-map f (Some x) h = h x

  pub any-then : (f : A → Option B) (o : Option A) → ((x : A) → Maybe Q (f x)) → Maybe Q (option_and_then f o)
  any-then f None h = tt
  any-then f (Some x) h = h x

module _ {A B : Type 0} (P : A → Type 0) (Q : B → Type 0) where
  pub each-map : (f : A → B) (xs : List A) → ((x : A) → P x → Q (f x)) → Each P xs → Each Q (map f xs)
  each-map f [] h p = tt
  each-map f (x ∷ xs) h p = (h x p.0, each-map f xs h p.1)

  kept : (o : Option B) (ys : List B) → Maybe Q o → Each Q ys → Each Q (cons_option o ys)
  kept None ys p q = q
  kept (Some y) ys p q = (p, q)

  pub each-filter_map : (f : A → Option B) (xs : List A) → ((x : A) → P x → Maybe Q (f x)) → Each P xs → Each Q (filter_map f xs)
  each-filter_map f [] h p = tt
  each-filter_map f (x ∷ xs) h p = kept (f x) (filter_map f xs) (h x p.0) (each-filter_map f xs h p.1)

  pub each-flat_map : (f : A → List B) (xs : List A) → ((x : A) → P x → Each Q (f x)) → Each P xs → Each Q (flat_map f xs)
  each-flat_map f [] h p = tt
  each-flat_map f (x ∷ xs) h p = each-append Q (f x) (flat_map f xs) (h x p.0) (each-flat_map f xs h p.1)

  pub maybe-map : (f : A → B) (o : Option A) → ((x : A) → P x → Q (f x)) → Maybe P o → Maybe Q (option_map f o)
  maybe-map f None h p = tt
  maybe-map f (Some x) h p = h x p

  pub maybe-and_then : (f : A → Option B) (o : Option A) → ((x : A) → P x → Maybe Q (f x)) → Maybe P o → Maybe Q (option_and_then f o)
  maybe-and_then f None h p = tt
  maybe-and_then f (Some x) h p = h x p
