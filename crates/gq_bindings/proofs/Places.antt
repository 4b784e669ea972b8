-- Lists of loaders and of bound fields, whose places are kept by name.
use Rattle.std.proofs.Common.{◌≡◌, ◌∙◌, sym, ap, ℕ, suc, ◌+◌, ◌<◌, Bool, true, false, cond, ◌&&◌, List, [], ◌∷◌, ◌++◌, length, get_or, map, bytes_eq, refl, Option, Some, None, inl, inr, arith}
use Rattle.std.specs.Prelude.{find, option_map}
use Rattle.std.proofs.lemmas.Bool.{cases_Bool, and_parts}
use Rattle.std.proofs.Math.ListN.{length-map}
use Rattle.std.proofs.lemmas.List.{map-append, get_or-map}
use lib.Pointwise.{bytes_decides}
use Rattle.gq_schema.specs.Scan.{or_else}
use Rattle.gq_schema.specs.Places.{place_from}
use Rattle.gq_bindings.specs.Tree.{LoaderOf, by_column, BoundFieldOf, is_loader, binds, binding_in, loader_from, loader_in, number_of}

-- ---- places

passed : {B : Type 0} (n : ℕ) (p : B → Bool) (x : B) (xs : List B) (k : ℕ) → p x ≡ false → (i : ℕ) × (k ≡ (n + 1) + i) × (i < length xs) × ((d : B) → find p xs ≡ Some (get_or xs i d))
    → (i : ℕ) × (k ≡ n + i) × (i < length (x ∷ xs)) × ((d : B) → find p (x ∷ xs) ≡ Some (get_or (x ∷ xs) i d))
passed n p x xs k fail (i, at, lt, is) = (suc i, omega arith, omega arith, λ d. rw fail (is d))

-- an element that passes stands at its place
place_found : {B : Type 0} (n : ℕ) (p : B → Bool) (xs : List B) (k : ℕ) → Some k ≡ place_from n p xs → (i : ℕ) × (k ≡ n + i) × (i < length xs) × ((d : B) → find p xs ≡ Some (get_or xs i d))
place_found n p [] k h = cc
place_found n p (x ∷ xs) k h =
    elim (cases_Bool (p x)) [
      | inl pass ↦ let e : Some k ≡ Some n = h ∙ rw pass refl in let same : k ≡ n = cc in (0, omega arith, omega arith, λ d. rw pass refl)
      | inr fail ↦ passed n p x xs k fail (place_found (n + 1) p xs k (h ∙ rw fail refl))
    ]

place_missing : {B : Type 0} (n : ℕ) (p : B → Bool) (xs : List B) → None ≡ place_from n p xs → find p xs ≡ None
place_missing n p [] h = refl
place_missing n p (x ∷ xs) h =
    elim (cases_Bool (p x)) [
      | inl pass ↦ let e : None ≡ Some n = h ∙ rw pass refl in cc
      | inr fail ↦ rw fail (place_missing (n + 1) p xs (h ∙ rw fail refl))
    ]

place_from-push : {B : Type 0} (n : ℕ) (p : B → Bool) (xs : List B) (x : B) → place_from n p (xs ++ x ∷ []) ≡ or_else (place_from n p xs) (cond (p x) (Some (n + length xs)) None)
place_from-push n p [] x = let e : n + 0 ≡ n = omega arith in rw e refl
place_from-push n p (y ∷ ys) x =
    elim (cases_Bool (p y)) [
      | inl pass ↦ rw pass refl
      | inr fail ↦ let e : n + length (y ∷ ys) ≡ (n + 1) + length ys = omega arith in rw (fail, e) (place_from-push (n + 1) p ys x)
    ]

-- ---- loaders

number_places : (n : ℕ) (ls : List LoaderOf) (q : List ℕ) → number_of (loader_from n ls q) ≡ place_from n (is_loader q) ls
number_places n [] q = refl
number_places n (l ∷ ls) q = elim (cases_Bool (is_loader q l)) [ inl is ↦ rw is refl | inr other ↦ rw other (number_places (n + 1) ls q) ]

loader_passed : (n : ℕ) (l : LoaderOf) (ls : List LoaderOf) (q : List ℕ) (k : ℕ) → is_loader q l ≡ false → (i : ℕ) × (k ≡ (n + 1) + i) × (i < length ls) × ((d : LoaderOf) → Some (k, get_or ls i d) ≡ loader_from (n + 1) ls q)
    → (i : ℕ) × (k ≡ n + i) × (i < length (l ∷ ls)) × ((d : LoaderOf) → Some (k, get_or (l ∷ ls) i d) ≡ loader_from n (l ∷ ls) q)
loader_passed n l ls q k other (i, at, lt, found) = (suc i, omega arith, omega arith, λ d. rw other (found d))

loader_found : (n : ℕ) (ls : List LoaderOf) (q : List ℕ) (k : ℕ) → Some k ≡ number_of (loader_from n ls q) → (i : ℕ) × (k ≡ n + i) × (i < length ls) × ((d : LoaderOf) → Some (k, get_or ls i d) ≡ loader_from n ls q)
loader_found n [] q k h = cc
loader_found n (l ∷ ls) q k h =
    elim (cases_Bool (is_loader q l)) [
      | inl is ↦ let e : Some k ≡ Some n = h ∙ rw is refl in let same : k ≡ n = cc in (0, omega arith, omega arith, λ d. rw (is, same) refl)
      | inr other ↦ loader_passed n l ls q k other (loader_found (n + 1) ls q k (h ∙ rw other refl))
    ]

-- the loader that stands at a number
pub loader_at : {A : Type 0} (f : A → LoaderOf) (lines : List A) (q : List ℕ) (k : ℕ) → Some k ≡ number_of (loader_in (map f lines) q)
    → (k < length lines) × ((d : A) → Some (k, f (get_or lines k d)) ≡ loader_in (map f lines) q)
loader_at f lines q k h =
    let (i, at, lt, found) = loader_found 0 (map f lines) q k h in
    let same : i ≡ k = omega arith in
    let within : k < length lines = omega (arith, length-map lines f) in
    (within, λ d. rw (← get_or-map f lines k d (f d) within) (rw same at (found (f d))))

pub no_loader : (o : Option (ℕ × LoaderOf)) → None ≡ number_of o → None ≡ o
no_loader None h = refl
no_loader (Some l) h = cc

-- the number of one more loader was noted
pub loader-push : {A : Type 0} (f : A → LoaderOf) (lines : List A) (l : A) (old new : List ℕ → Option ℕ)
    → ((q : List ℕ) → old q ≡ number_of (loader_in (map f lines) q)) → ((q : List ℕ) → new q ≡ cond (is_loader q (f l)) (Some (length lines)) (old q))
    → loader_in (map f lines) (f l).name ≡ None → (q : List ℕ) → new q ≡ number_of (loader_in (map f (lines ++ l ∷ [])) q)
loader-push f lines l old new was now none q = now q ∙ noted (is_loader q (f l)) refl ∙ sym after
  where
    after : number_of (loader_in (map f (lines ++ l ∷ [])) q) ≡ or_else (number_of (loader_in (map f lines) q)) (cond (is_loader q (f l)) (Some (length lines)) None)
    after =
        ap (λ ls. number_of (loader_in ls q)) (map-append f lines (l ∷ []))
        ∙ number_places 0 (map f lines ++ f l ∷ []) q
        ∙ place_from-push 0 (is_loader q) (map f lines) (f l)
        ∙ (let len : 0 + length (map f lines) ≡ length lines = omega (arith, length-map lines f) in rw (← number_places 0 (map f lines) q, len) refl)

    kept : (o : Option ℕ) → o ≡ or_else o None
    kept None = refl
    kept (Some n) = refl

    noted : (b : Bool) → is_loader q (f l) ≡ b → cond b (Some (length lines)) (old q) ≡ or_else (number_of (loader_in (map f lines) q)) (cond b (Some (length lines)) None)
    noted true is =
        let here : q ≡ (f l).name = (bytes_decides q (f l).name).0 is in
        rw (here, none) refl
    noted false is = was q ∙ kept (number_of (loader_in (map f lines) q))

-- ---- bound fields

-- the field that stands at a place
pub field_at : {A : Type 0} (f : A → BoundFieldOf) (entries : List A) (ty name : List ℕ) (k : ℕ) → Some k ≡ place_from 0 (binds ty name) (map f entries)
    → (k < length entries) × ((d : A) → Some (f (get_or entries k d)).binding ≡ binding_in (map f entries) ty name)
field_at f entries ty name k h =
    let (i, at, lt, found) = place_found 0 (binds ty name) (map f entries) k h in
    let same : i ≡ k = omega arith in
    let within : k < length entries = omega (arith, length-map entries f) in
    (within, λ d. sym (ap (option_map (λ (b : BoundFieldOf). b.binding)) (found (f d) ∙ ap (λ n. Some (get_or (map f entries) n (f d))) same ∙ ap (λ b. Some b) (get_or-map f entries k d (f d) within))))

pub no_field : {A : Type 0} (f : A → BoundFieldOf) (entries : List A) (ty name : List ℕ) → None ≡ place_from 0 (binds ty name) (map f entries) → None ≡ binding_in (map f entries) ty name
no_field f entries ty name h = sym (ap (option_map (λ (b : BoundFieldOf). b.binding)) (place_missing 0 (binds ty name) (map f entries) h))

-- no field has this name where none has a place
unbound : (fields : List BoundFieldOf) (ty name : List ℕ) → binding_in fields ty name ≡ None → place_from 0 (binds ty name) fields ≡ None
unbound fields ty name h = missing (place_from 0 (binds ty name) fields) refl where
  missing : (o : Option ℕ) → place_from 0 (binds ty name) fields ≡ o → place_from 0 (binds ty name) fields ≡ None
  missing None e = e
  missing (Some k) e =
      let (i, at, lt, found) = place_found 0 (binds ty name) fields k (sym e) in
      let here : binding_in fields ty name ≡ Some (get_or fields i (record { type_name = []; field_name = []; binding = by_column [] })).binding = ap (option_map (λ (b : BoundFieldOf). b.binding)) (found _) in
      cc

-- the place of one more field was noted
pub field-push : {A : Type 0} (f : A → BoundFieldOf) (entries : List A) (e : A) (ty name : List ℕ) (old new : List ℕ → List ℕ → Option ℕ)
    → ((q r : List ℕ) → old q r ≡ place_from 0 (binds q r) (map f entries))
    → ((q r : List ℕ) → new q r ≡ cond (bytes_eq q ty && bytes_eq r name) (Some (length entries)) (old q r))
    → ty ≡ (f e).type_name → name ≡ (f e).field_name → binding_in (map f entries) (f e).type_name (f e).field_name ≡ None
    → (q r : List ℕ) → new q r ≡ place_from 0 (binds q r) (map f (entries ++ e ∷ []))
field-push f entries e ty name old new was now same_type same_name none q r =
    now q r ∙ ap (λ b. cond b (Some (length entries)) (old q r)) tests ∙ noted (binds q r (f e)) refl ∙ sym after
  where
    tests : (bytes_eq q ty && bytes_eq r name) ≡ binds q r (f e)
    tests = rw (same_type, same_name) refl

    after : place_from 0 (binds q r) (map f (entries ++ e ∷ [])) ≡ or_else (place_from 0 (binds q r) (map f entries)) (cond (binds q r (f e)) (Some (length entries)) None)
    after =
        ap (place_from 0 (binds q r)) (map-append f entries (e ∷ []))
        ∙ place_from-push 0 (binds q r) (map f entries) (f e)
        ∙ (let len : 0 + length (map f entries) ≡ length entries = omega (arith, length-map entries f) in rw len refl)

    kept : (o : Option ℕ) → o ≡ or_else o None
    kept None = refl
    kept (Some n) = refl

    noted : (b : Bool) → binds q r (f e) ≡ b → cond b (Some (length entries)) (old q r) ≡ or_else (place_from 0 (binds q r) (map f entries)) (cond b (Some (length entries)) None)
    noted true is =
        let parts = and_parts (bytes_eq q (f e).type_name) (bytes_eq r (f e).field_name) is in
        let first : q ≡ (f e).type_name = (bytes_decides q (f e).type_name).0 parts.0 in
        let second : r ≡ (f e).field_name = (bytes_decides r (f e).field_name).0 parts.1 in
        rw (first, second, unbound (map f entries) (f e).type_name (f e).field_name none) refl
    noted false is = was q r ∙ kept (place_from 0 (binds q r) (map f entries))
