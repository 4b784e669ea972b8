-- Levels where those of some fragments are known, counted no further than one too many.
use Rattle.std.specs.Prelude.{ℕ, ◌+◌, max, min, List, Option, Some, None, slice_get}
use Rattle.std.specs.Option.{option_map, option_map_or, option_and_then}
use Rattle.gq_parser.specs.Tree.{Field, Spread, Inline, Below, nothing_below, below, SelectionSet, set_at, Selection, Selections, no_selection, and_selection, Fragment}
use Rattle.rules_parts.specs.Fragments.{fragment_place}

-- one more than may stand on a path
abbrev pub too_many : ℕ
too_many = 129

abbrev pub one_more : ℕ → ℕ
one_more n = min (n + 1) too_many

abbrev pub greater_known : Option ℕ → Option ℕ → Option ℕ
greater_known (Some m) (Some n) = Some (max m n)
greater_known (Some m) None = None
greater_known None n = None

-- the levels, where all that they rest on are known
abbrev mutual
  pub known_in : (List ℕ → Option ℕ) → SelectionSet → Option ℕ
  known_in spread (set_at p ss) = known_among spread ss

  pub known_among : (List ℕ → Option ℕ) → Selections → Option ℕ
  known_among spread no_selection = Some 0
  known_among spread (and_selection s ss) =
      greater_known (known_from spread s) (known_among spread ss)

  pub known_from : (List ℕ → Option ℕ) → Selection → Option ℕ
  known_from spread (Field p alias name as' ds b) = option_map one_more (known_below spread b)
  known_from spread (Spread p name ds) = spread name
  known_from spread (Inline p c ds s) = known_in spread s

  pub known_below : (List ℕ → Option ℕ) → Below → Option ℕ
  known_below spread nothing_below = Some 0
  known_below spread (below s) = known_in spread s

-- gives what a table knows of the fragment with this number
abbrev pub known_at : List (Option ℕ) → ℕ → Option ℕ
known_at table j = option_and_then (λ levels. levels) (slice_get table j)

-- gives what a table knows of a fragment's name; an unknown name has no fields
abbrev pub known_named : List (Option ℕ) → List Fragment → List ℕ → Option ℕ
known_named table fragments name =
    option_map_or (known_at table) (fragment_place fragments name) (Some 0)
