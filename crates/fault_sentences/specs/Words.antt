-- Words around names.
use Rattle.std.specs.Prelude.{ℕ, nat_eq, List, [], ◌∷◌, codes, if◌then◌else◌}
use Rattle.std.specs.List.{starts_with}

-- the mark on both sides of a token, of which a string has its own
abbrev pub mark_of : List ℕ → List ℕ
mark_of token = if starts_with nat_eq token (codes "\"") then [] else codes "\""

-- a token in quotes, between two texts
abbrev pub on_token : List ℕ → List ℕ → List ℕ → List (List ℕ)
on_token before token behind = before ∷ mark_of token ∷ token ∷ mark_of token ∷ behind ∷ []
