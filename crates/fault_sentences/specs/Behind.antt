-- What follows a word.
use Rattle.std.specs.Prelude.{Bool, List, [], ◌∷◌, ◌++◌, take, if◌then◌else◌}

-- the elements right behind one that passes
abbrev pub behind : {A : Type 0} → (A → Bool) → List A → List A
behind p [] = []
behind p (x ∷ xs) = if p x then take 1 xs ++ behind p xs else behind p xs
