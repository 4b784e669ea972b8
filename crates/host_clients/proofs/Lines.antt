-- The line of a loader, by the loader's number.
use Rattle.std.proofs.Common.{◌≡◌, ◌∙◌, ◌<◌, ◌≤◌, ℕ, List, Option, Some, None, map, length, get_or, refl, ap, sym, arith, inl, inr}
use Rattle.std.specs.Prelude.{IfSome, MatchOption, option_map, slice_get}
use Rattle.std.specs.Borrow.{Bor}
use Rattle.std.proofs.lemmas.Option.{slice_get_cases, slice_get_read, slice_get-map}

pub line-at : {A B : Type 0} (f : A → B) (xs : List A) (ys : List B) (n : ℕ) (found : Option (Bor A)) → map f xs ≡ ys → IfSome found (λ x. x.now ≡ get_or xs n x.now)
    → MatchOption found (length xs ≤ n) (λ x. n < length xs) → option_map (λ x. f x.now) found ≡ slice_get ys n
line-at f xs ys n None are is at =
    let none : slice_get xs n ≡ None = elim (slice_get_cases xs n).1 [ inl here ↦ absurd (omega (arith, here.1, at)) | inr past ↦ past.1 ] in
    sym (ap (λ zs. slice_get zs n) (sym are) ∙ slice_get-map f xs n ∙ ap (option_map f) none)
line-at f xs ys n (Some x) are is at =
    sym (ap (λ zs. slice_get zs n) (sym are) ∙ slice_get-map f xs n ∙ ap (option_map f) (slice_get_read xs (length xs) n x.now refl at is))

pub within-only : {A : Type 0} (xs : List A) (n : ℕ) (P : Bor A → Type 0) (found : Option (Bor A)) → MatchOption found (length xs ≤ n) (λ x. (n < length xs) × P x) → MatchOption found (length xs ≤ n) (λ x. n < length xs)
within-only xs n P None h = h
within-only xs n P (Some x) h = h.0
