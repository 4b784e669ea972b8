-- Names that stand a second time in a list.
use Rattle.std.specs.Prelude.{ℕ, Bool, List, [], ◌∷◌, bytes_eq, if◌then◌else◌}
use Rattle.std.specs.List.{list_any}
use Rattle.rules_parts.specs.Broken.{BrokenOf}

abbrev pub has_name : List ℕ → BrokenOf → Bool
has_name q n = bytes_eq q n.name

-- those whose name one of the earlier has, or one that stands before it here
abbrev pub repeated_behind : List BrokenOf → List BrokenOf → List BrokenOf
repeated_behind earlier [] = []
repeated_behind earlier (n ∷ ns) =
    if list_any (has_name n.name) earlier then n ∷ repeated_behind (n ∷ earlier) ns
    else repeated_behind (n ∷ earlier) ns

-- those whose name stands before them in the list
abbrev pub repeated : List BrokenOf → List BrokenOf
repeated names = repeated_behind [] names
