-- Lemmas on what is read of the front of a text.
use Rattle.std.proofs.Common.{◌≡◌, ◌∙◌, ap, subst, ℕ, ◌<◌, ◌≤◌, min, List, [], ◌++◌, take, length, Option, Some, None, IfSome, inl, inr, ◌⊎◌, arith}
use Rattle.std.specs.Option.{option_map}
use Rattle.std.specs.declared.io.traits.Take.{Take}
use Rattle.std.specs.Io.Take.{take_remaining}
use Rattle.std.proofs.lemmas.Bool.{cases_lt}
use Rattle.std.proofs.lemmas.List.{length-take, take_all}
use Rattle.world_files.specs.Opening.{IsWholeOrLong}

-- all that was read up to a bound, or a long part of it
pub front-read : (known : Option (List ℕ)) (bound most : ℕ) (items text : List ℕ) → most < bound
    → IfSome (option_map (take bound) known) (λ xs. items ≡ xs)
    → (text ≡ items) ⊎ ((most < length text) × (length text ≤ length items))
    → IfSome known (λ bytes. IsWholeOrLong most bytes text)
front-read None bound most items text lt read how = tt
front-read (Some bytes) bound most items text lt read (inr long) =
    let size = length-take bound bytes in
    let count : length items ≡ min bound (length bytes) = ap length read ∙ size in
    inr (omega (arith, count, long.0, long.1), long.0)
front-read (Some bytes) bound most items text lt read (inl same) = go (cases_lt bound (length bytes))
  where
    count : length text ≡ min bound (length bytes)
    count = ap length same ∙ (ap length read ∙ length-take bound bytes)

    go : (bound < length bytes) ⊎ (length bytes ≤ bound) → IsWholeOrLong most bytes text
    go (inr short) = inl (same ∙ (read ∙ take_all bound bytes short))
    go (inl more) = inr (omega (arith, lt, more), omega (arith, lt, more, count))

-- the bytes that a bounded reader gives, in terms of the reader
pub bounded-read : (R : Type 0) (remaining : R → Option (List ℕ)) (t : Take R) (reader : R) (bound : ℕ) (old items : List ℕ) → t.inner ≡ reader → t.limit ≡ bound → old ≡ []
    → IfSome (take_remaining remaining t) (λ xs. items ≡ old ++ xs) → IfSome (option_map (take bound) (remaining reader)) (λ xs. items ≡ xs)
bounded-read R remaining t reader bound old items inner limit none read =
    subst (λ (r : R). IfSome (option_map (take bound) (remaining r)) (λ xs. items ≡ xs)) inner
    (subst (λ (n : ℕ). IfSome (option_map (take n) (remaining t.inner)) (λ xs. items ≡ xs)) limit
    (subst (λ (ys : List ℕ). IfSome (option_map (take t.limit) (remaining t.inner)) (λ xs. items ≡ ys ++ xs)) none read))
