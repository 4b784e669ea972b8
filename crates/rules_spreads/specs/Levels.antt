-- Definitions of how many fields stand one inside another on a path, fragments expanded.
use Rattle.std.specs.Prelude.{ℕ, zero, suc, ◌+◌, max, List, length, slice_get}
use Rattle.std.specs.Option.{option_map_or}
use Rattle.gq_parser.specs.Tree.{Field, Spread, Inline, Below, nothing_below, below, SelectionSet, set_at, Selection, Selections, no_selection, and_selection, Operation, Fragment}
use Rattle.rules_parts.specs.Fragments.{fragment_place}

-- The greatest number of fields on a path down from here, where spread says that number of a fragment's name.
abbrev mutual
  pub levels_in : (List ℕ → ℕ) → SelectionSet → ℕ
  levels_in spread (set_at p ss) = levels_among spread ss

  pub levels_among : (List ℕ → ℕ) → Selections → ℕ
  levels_among spread no_selection = 0
  levels_among spread (and_selection s ss) = max (levels_from spread s) (levels_among spread ss)

  pub levels_from : (List ℕ → ℕ) → Selection → ℕ
  levels_from spread (Field p alias name as' ds b) = levels_below spread b + 1
  levels_from spread (Spread p name ds) = spread name
  levels_from spread (Inline p c ds s) = levels_in spread s

  pub levels_below : (List ℕ → ℕ) → Below → ℕ
  levels_below spread nothing_below = 0
  levels_below spread (below s) = levels_in spread s

-- that of a fragment's name, from those of the fragments by their numbers; an unknown name has no fields
abbrev pub levels_named : (ℕ → ℕ) → List Fragment → List ℕ → ℕ
levels_named levels fragments name = option_map_or levels (fragment_place fragments name) 0

-- that of the fragment with the number j, on paths that expand at most n fragments
abbrev pub levels_expanded : ℕ → List Fragment → ℕ → ℕ
levels_expanded zero fragments j = 0
levels_expanded (suc n) fragments j = option_map_or (λ (f : Fragment).
    levels_in (levels_named (levels_expanded n fragments) fragments) f.selection_set)
    (slice_get fragments j) 0

-- those of all fragments, by their numbers
abbrev pub fragment_levels : List Fragment → ℕ → ℕ
fragment_levels fragments = levels_expanded (length fragments) fragments

-- That of an operation. Without cycles no path expands more fragments than there are.
abbrev pub levels_of : List Fragment → Operation → ℕ
levels_of fragments o = levels_in
    (levels_named (levels_expanded (length fragments) fragments) fragments) o.selection_set
