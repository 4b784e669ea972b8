-- The first element that passes a test, by its place.
use Rattle.std.proofs.Common.{◌≡◌, ◌∙◌, sym, ap, ℕ, suc, ◌+◌, ◌-◌, ◌<◌, ◌≤◌, Bool, true, false, cond, List, [], ◌∷◌, length, map, get_or, refl, arith, Some, None}
use Rattle.std.specs.Prelude.{find, is_some, ◌||◌}
use Rattle.std.specs.List.{list_any}
use Rattle.std.proofs.lemmas.List.{length-map, get_or-map as get_or-mapped}
use Rattle.std.proofs.Math.ListN.{get_or-map}
use Rattle.gq_schema.specs.Places.{place_from}

-- an element stands at this place of a list that begins at n, and is the first that passes
pub record IsFirstAt {A B : Type 0} (f : B → A) (test : A → Bool) (n : ℕ) (xs : List B) (i : ℕ) (d : B) : Type 0 where
  pub from : n ≤ i
  pub within : i < n + length xs
  pub first : find test (map f xs) ≡ Some (f (get_or xs (i - n) d))

first_step : {A B : Type 0} (f : B → A) (test : A → Bool) (n : ℕ) (x : B) (xs : List B) (i : ℕ) (d : B) → (b : Bool) → test (f x) ≡ b → place_from n test (map f (x ∷ xs)) ≡ Some i
    → (place_from (n + 1) test (map f xs) ≡ Some i → IsFirstAt f test (n + 1) xs i d) → IsFirstAt f test n (x ∷ xs) i d
first_step f test n x xs i d true e h behind =
    let same : n ≡ i = let here = rw e at h in cc in
    let none : i - n ≡ 0 = omega arith in
    record { from = omega arith; within = omega arith; first = rw (e, none) refl }
first_step f test n x xs i d false e h behind =
    let r = behind (rw e at h) in
    let from : n + 1 ≤ i = r.from in
    let within : i < (n + 1) + length xs = r.within in
    let next : i - n ≡ suc (i - (n + 1)) = omega arith in
    record { from = omega arith; within = omega arith; first = rw (e, next) r.first }

pub first_at : {A B : Type 0} (f : B → A) (test : A → Bool) (n : ℕ) (xs : List B) (i : ℕ) (d : B) → place_from n test (map f xs) ≡ Some i → IsFirstAt f test n xs i d
first_at f test n [] i d h = cc
first_at f test n (x ∷ xs) i d h = first_step f test n x xs i d (test (f x)) refl h (first_at f test (n + 1) xs i d)

none_step : {A B : Type 0} (f : B → A) (test : A → Bool) (n : ℕ) (x : B) (xs : List B) → (b : Bool) → test (f x) ≡ b → place_from n test (map f (x ∷ xs)) ≡ None
    → (place_from (n + 1) test (map f xs) ≡ None → find test (map f xs) ≡ None) → find test (map f (x ∷ xs)) ≡ None
none_step f test n x xs true e h behind = let here = rw e at h in cc
none_step f test n x xs false e h behind = rw e (behind (rw e at h))

pub none_at : {A B : Type 0} (f : B → A) (test : A → Bool) (n : ℕ) (xs : List B) → place_from n test (map f xs) ≡ None → find test (map f xs) ≡ None
none_at f test n [] h = refl
none_at f test n (x ∷ xs) h = none_step f test n x xs (test (f x)) refl h (none_at f test (n + 1) xs)

within_step : {A B : Type 0} (f : B → A) (test : A → Bool) (n : ℕ) (x : B) (xs : List B) (i : ℕ) → (b : Bool) → test (f x) ≡ b → place_from n test (map f (x ∷ xs)) ≡ Some i
    → (place_from (n + 1) test (map f xs) ≡ Some i → i < (n + 1) + length xs) → i < n + length (x ∷ xs)
within_step f test n x xs i true e h behind = let same : n ≡ i = let here = rw e at h in cc in omega arith
within_step f test n x xs i false e h behind = let r = behind (rw e at h) in omega arith

pub place_within : {A B : Type 0} (f : B → A) (test : A → Bool) (n : ℕ) (xs : List B) (i : ℕ) → place_from n test (map f xs) ≡ Some i → i < n + length xs
place_within f test n [] i h = cc
place_within f test n (x ∷ xs) i h = within_step f test n x xs i (test (f x)) refl h (place_within f test (n + 1) xs i)

-- shows the same, of elements that are seen as others
pub seen_within : {A B C : Type 0} (f : B → A) (g : C → B) (test : A → Bool) (xs : List C) (i : ℕ) → place_from 0 test (map f (map g xs)) ≡ Some i → i < length xs
seen_within f g test xs i h = let below = place_within f test 0 (map g xs) i h in omega (arith, length-map xs g)

pub seen_first : {A B C : Type 0} (f : B → A) (g : C → B) (test : A → Bool) (xs : List C) (i : ℕ) (x : C) → place_from 0 test (map f (map g xs)) ≡ Some i → x ≡ get_or xs i x → find test (map f (map g xs)) ≡ Some (f (g x))
seen_first f g test xs i x h is =
    let r = first_at f test 0 (map g xs) i (g x) h in
    let zero-less : i - 0 ≡ i = omega arith in
    r.first ∙ ap (λ y. Some (f y)) (ap (λ j. get_or (map g xs) j (g x)) zero-less ∙ (get_or-map g xs i x ∙ ap g (sym is)))

pub found_within : {A B : Type 0} (f : B → A) (test : A → Bool) (xs : List B) (i : ℕ) → place_from 0 test (map f xs) ≡ Some i → i < length xs
found_within f test xs i h = let below = place_within f test 0 xs i h in omega arith

pub found_element : {A B : Type 0} (f : B → A) (test : A → Bool) (xs : List B) (i : ℕ) (d : B) → place_from 0 test (map f xs) ≡ Some i → find test (map f xs) ≡ Some (f (get_or xs i d))
found_element f test xs i d h =
    let r = first_at f test 0 xs i d h in
    let zero-less : i - 0 ≡ i = omega arith in
    r.first ∙ ap (λ j. Some (f (get_or xs j d))) zero-less

pub found_first : {A B : Type 0} (f : B → A) (test : A → Bool) (xs : List B) (i : ℕ) (x : B) → place_from 0 test (map f xs) ≡ Some i → x ≡ get_or xs i x → find test (map f xs) ≡ Some (f x)
found_first f test xs i x h is = found_element f test xs i x h ∙ ap (λ y. Some (f y)) (sym is)

pub is_some-place_from : {A : Type 0} (test : A → Bool) (n : ℕ) (xs : List A) → is_some (place_from n test xs) ≡ list_any test xs
is_some-place_from test n [] = refl
is_some-place_from test n (x ∷ xs) = step (test x) (is_some-place_from test (n + 1) xs) where
  step : (b : Bool) → is_some (place_from (n + 1) test xs) ≡ list_any test xs → is_some (cond b (Some n) (place_from (n + 1) test xs)) ≡ (b || list_any test xs)
  step true h = refl
  step false h = h

-- ---- elements of lists that were made of others, place by place

pub seen_at : {X Y : Type 0} (f : X → Y) (xs : List X) (i : ℕ) (x : X) → x ≡ get_or xs i x → f x ≡ get_or (map f xs) i (f x)
seen_at f xs i x is = ap f is ∙ sym (get_or-map f xs i x)

pub made_of : {X Y : Type 0} (f : X → Y) (xs : List X) (ys : List Y) (i : ℕ) (x : X) (y : Y) → ys ≡ map f xs → i < length xs → x ≡ get_or xs i x → y ≡ get_or ys i y → y ≡ f x
made_of f xs ys i x y made below x-is y-is =
    y-is ∙ (ap (λ zs. get_or zs i y) made ∙ (get_or-mapped f xs i x y below ∙ ap f (sym x-is)))

pub made_length : {X Y : Type 0} (f : X → Y) (xs : List X) (ys : List Y) → ys ≡ map f xs → length ys ≡ length xs
made_length f xs ys made = ap length made ∙ length-map xs f
