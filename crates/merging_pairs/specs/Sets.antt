-- Sets of numbers, as words of bits.
use Rattle.std.specs.Prelude.{◌≡◌, ℕ, ◌/◌, ◌%◌, Bool, true, false, ◌==◌, List, slice_index}
use Rattle.std.specs.Int.{bit_at}

-- bit i % 64 of word i / 64
unfoldable pub has : List ℕ → ℕ → Bool
has words i = bit_at (slice_index words (i / 64)) (i % 64) == 1

-- a number that is in both
pub record Common (a b : List ℕ) : Type 0 where
  pub place : ℕ
  pub first : has a place ≡ true
  pub second : has b place ≡ true

-- a test tells whether they have a number in common
pub record Meets (a b : List ℕ) (met : Bool) : Type 0 where
  pub found : met ≡ true → Common a b
  pub none : met ≡ false → Common a b → ⊥

-- no number is in it
abbrev pub IsEmpty : List ℕ → Type 0
IsEmpty a = (i : ℕ) → has a i ≡ true → ⊥
