-- Definitions of where the first element of each name stands in a list.
use Rattle.std.specs.Prelude.{◌≡◌, ℕ, ◌+◌, Bool, List, [], ◌∷◌, Option, Some, None, String, bytes_eq, string_bytes, if◌then◌else◌}
use Rattle.std.specs.Global.{Global}
use Rattle.std.specs.HashMap.{HashMap, get_by_text}
use Rattle.schema_syntax.specs.declared.tree.Name as rust
use Rattle.schema_syntax.specs.Tree.{Definition, Object, Interface, Enum}
use Rattle.gq_schema.specs.Types.{is_called, is_field}

-- the place of the first element that passes, where the list begins at place n
abbrev pub place_from : {A : Type 0} → ℕ → (A → Bool) → List A → Option ℕ
place_from n test [] = None
place_from n test (x ∷ xs) = if test x then Some n else place_from (n + 1) test xs

-- this place, if it is of the name q
abbrev pub place_if_called : List ℕ → rust.Name → ℕ → Option ℕ
place_if_called q name place = if bytes_eq q (string_bytes name.text) then Some place else None

-- the map has the place of the first element of each name
abbrev pub ArePlaces : {A S : Type 0} → (List ℕ → A → Bool)
    → List A → HashMap (String Global) ℕ S → Type 0
ArePlaces named xs places = (q : List ℕ) → get_by_text places q ≡ place_from 0 (named q) xs

-- gives where the field, or the value of an enum, of this name stands in a definition
abbrev pub part_place : Definition → List ℕ → Option ℕ
part_place (Object n is fs) q = place_from 0 (is_field q) fs
part_place (Interface n fs) q = place_from 0 (is_field q) fs
part_place (Enum n vs) q = place_from 0 (is_called q) vs
part_place _ q = None

-- where the field or value of this name stands, by the map where there is one
abbrev pub found_place : {S : Type 0}
    → Option (HashMap (String Global) ℕ S) → Definition → List ℕ → Option ℕ
found_place None d q = part_place d q
found_place (Some places) d q = get_by_text places q
