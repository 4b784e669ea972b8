-- Definitions of where the binding of each field stands, by the name of its type and its own.
use Rattle.std.specs.Prelude.{◌≡◌, ◌&&◌, ℕ, List, Option, Some, option_and_then, String, bytes_eq, string_bytes, if◌then◌else◌}
use Rattle.std.specs.Global.{Global}
use Rattle.std.specs.declared.hash.FoldHasher.{FoldHasher}
use Rattle.std.specs.declared.hash.BuildHasherDefault.{BuildHasherDefault}
use Rattle.std.specs.HashMap.{HashMap, get_by_text}

abbrev pub Numbers : Type 0
Numbers = HashMap (String Global) ℕ (BuildHasherDefault FoldHasher)

-- the place of this field of this type
abbrev pub place_in : HashMap (String Global) Numbers (BuildHasherDefault FoldHasher)
    → List ℕ → List ℕ → Option ℕ
place_in places ty name =
    option_and_then (λ (m : Numbers). get_by_text m name) (get_by_text places ty)

-- the field r of the type q stands at this place if it is this field of this type, else where it stood
abbrev pub IsPlaced : String Global → String Global → ℕ
    → HashMap (String Global) Numbers (BuildHasherDefault FoldHasher)
    → HashMap (String Global) Numbers (BuildHasherDefault FoldHasher) → List ℕ → List ℕ → Type 0
IsPlaced ty name place old new q r =
    place_in new q r ≡ (if bytes_eq q (string_bytes ty) && bytes_eq r (string_bytes name)
    then Some place else place_in old q r)
