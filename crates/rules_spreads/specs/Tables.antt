-- Tables of the levels of fragments.
use Rattle.std.specs.Prelude.{◌≡◌, ℕ, min, ◌<◌, ◌≤◌, List, map, Option, Some, IsSome}
use Rattle.gq_parser.specs.Tree.{Fragment}
use Rattle.rules_parts.specs.declared.parts.Parts.{Parts}
use Rattle.rules_parts.specs.Parts.{parts_in}
use Rattle.rules_spreads.specs.Known.{too_many, known_at, known_named, known_in}
use Rattle.rules_spreads.specs.Levels.{levels_expanded}

abbrev pub fragments_in : Parts → List Fragment
fragments_in p = (parts_in p).document.fragments

-- the count up to one too many
abbrev pub capped_levels : ℕ → ℕ
capped_levels n = min n too_many

-- says what the table knows of fragments are these levels
abbrev pub Agrees : List (Option ℕ) → (ℕ → ℕ) → Type 0
Agrees table levels = (j n : ℕ) → known_at table j ≡ Some n → n ≡ capped_levels (levels j)

-- the table knows the levels of the fragments below `count`
abbrev pub IsFull : List (Option ℕ) → ℕ → Type 0
IsFull table count = (j : ℕ) → j < count → IsSome (known_at table j)

-- The table agrees with the levels on paths that expand k fragments or more.
abbrev pub IsSettled : List (Option ℕ) → ℕ → List Fragment → Type 0
IsSettled table k fragments = (m : ℕ) → k ≤ m → Agrees table (levels_expanded m fragments)

-- the levels of all fragments, where a table has those of what they spread
abbrev pub expanded_table : List (Option ℕ) → List Fragment → List (Option ℕ)
expanded_table table fragments =
    map (λ (f : Fragment). known_in (known_named table fragments) f.selection_set) fragments
