-- The first of several answers.
use Rattle.std.specs.Prelude.{List, [], ◌∷◌, Option, Some, None}

-- the first answer, or else the second
abbrev pub or_else : {A : Type 0} → Option A → Option A → Option A
or_else (Some x) o = Some x
or_else None o = o

-- the first answer that the elements of a list give, in order
abbrev pub first_in : {A B : Type 0} → (A → Option B) → List A → Option B
first_in f [] = None
first_in f (x ∷ xs) = or_else (f x) (first_in f xs)
