-- Fragments by their names. Of several of one name the first counts.
use Rattle.std.specs.Prelude.{◌≡◌, ℕ, ◌+◌, Bool, List, [], ◌∷◌, Option, Some, None, bytes_eq, if◌then◌else◌}
use Rattle.std.specs.Borrow.{Bor}
use Rattle.std.specs.HashMap.{HashMap, get_by}
use Rattle.gq_parser.specs.Tree.{Fragment}

abbrev pub is_named : List ℕ → Fragment → Bool
is_named name f = bytes_eq name f.name

-- the number of the first fragment of a name, where the first of these has the number n
abbrev pub place_from : ℕ → List ℕ → List Fragment → Option ℕ
place_from n name [] = None
place_from n name (f ∷ fs) = if is_named name f then Some n else place_from (n + 1) name fs

-- the number of the first fragment of a name, from 0
abbrev pub place_in : List Fragment → List ℕ → Option ℕ
place_in fragments name = place_from 0 name fragments

-- gives what the map has for a name
abbrev pub target_at : {S : Type 0} → HashMap (Bor (List ℕ)) ℕ S → List ℕ → Option ℕ
target_at targets name = get_by (λ k. bytes_eq name k.now) targets

-- the map has the number of the first fragment of each name
abbrev pub AreTargets : {S : Type 0} → List Fragment → HashMap (Bor (List ℕ)) ℕ S → Type 0
AreTargets fragments targets = (name : List ℕ) → target_at targets name ≡ place_in fragments name

abbrev pub or_else : Option ℕ → Option ℕ → Option ℕ
or_else None b = b
or_else (Some a) b = Some a
