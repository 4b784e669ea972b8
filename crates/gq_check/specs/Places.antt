-- Definitions of where names stand in a list.
use Rattle.std.specs.Prelude.{◌≢◌, ℕ, Bool, List, Option, Some, None, String, bytes_eq, if◌then◌else◌}
use Rattle.std.specs.Global.{Global}
use Rattle.std.specs.HashMap.{HashMap, hash_map_len}
use Rattle.gq_schema.specs.Places.{ArePlaces}

-- gives where a name stands if the only name known is this one, at this place
abbrev pub place_of : List ℕ → ℕ → List ℕ → Option ℕ
place_of name place q = if bytes_eq q name then Some place else None

-- a map, unless it is empty, has the place of the first element of each name
abbrev pub ArePlacesIf : {A S : Type 0} → (List ℕ → A → Bool)
    → List A → HashMap (String Global) ℕ S → Type 0
ArePlacesIf named xs places = hash_map_len places ≢ 0 → ArePlaces named xs places
