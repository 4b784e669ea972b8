-- Numbers of fragments that show that none reaches itself.
use Rattle.std.specs.Prelude.{◌≡◌, ◌<◌, ℕ, Bool, true, ◌&&◌, nat_lt, List, length, take, Option, Some, slice_get, slice_index_or}
use Rattle.std.specs.Option.{option_map_or}
use Rattle.merging_pairs.specs.Numbered.{is_in}
use Rattle.gq_parser.specs.Tree.{Field, Spread, Inline, Below, nothing_below, below, SelectionSet, set_at, Selection, Selections, no_selection, and_selection, Fragment}

-- the names of all spreads in it pass a test
abbrev mutual
  pub spreads_in : (List ℕ → Bool) → SelectionSet → Bool
  spreads_in test (set_at p ss) = spreads_among test ss

  pub spreads_among : (List ℕ → Bool) → Selections → Bool
  spreads_among test no_selection = true
  spreads_among test (and_selection s ss) = spreads_from test s && spreads_among test ss

  pub spreads_from : (List ℕ → Bool) → Selection → Bool
  spreads_from test (Field p alias name as' ds b) = spreads_below test b
  spreads_from test (Spread p name ds) = test name
  spreads_from test (Inline p c ds s) = spreads_in test s

  pub spreads_below : (List ℕ → Bool) → Below → Bool
  spreads_below test nothing_below = true
  spreads_below test (below s) = spreads_in test s

abbrev pub rank_of : List ℕ → ℕ → ℕ
rank_of ranks i = slice_index_or ranks i 0

-- the fragment of a name has a rank below this, if there is one
abbrev pub is_under : List ℕ → (List ℕ → Option ℕ) → ℕ → List ℕ → Bool
is_under ranks place bound name =
    option_map_or (λ j. nat_lt (rank_of ranks j) bound) (place name) true

-- Ranks of fragments: whatever a fragment spreads, at whatever depth, has a lesser rank, and ranks are below the number of fragments.
pub record IsRanked (ranks : List ℕ) (place : List ℕ → Option ℕ)
    (fragments : List Fragment) : Type 0 where
  pub below : (i : ℕ) (f : Fragment) → slice_get fragments i ≡ Some f
      → rank_of ranks i < length fragments
  pub under : (i : ℕ) (f : Fragment) → slice_get fragments i ≡ Some f
      → spreads_in (is_under ranks place (rank_of ranks i)) f.selection_set ≡ true

-- some numbers show that none of these fragments reaches itself
abbrev pub AreRanked : (List ℕ → Option ℕ) → List Fragment → Type 0
AreRanked place fragments = (ranks : List ℕ) × IsRanked ranks place fragments

-- the fragment of a name is one of these, if there is one
abbrev pub is_among : List ℕ → (List ℕ → Option ℕ) → List ℕ → Bool
is_among numbers place name = option_map_or (is_in numbers) (place name) true

-- An order of fragments, in which each of them stands. Before a fragment stand those that it spreads, at whatever depth.
pub record IsOrder (order : List ℕ) (place : List ℕ → Option ℕ)
    (fragments : List Fragment) : Type 0 where
  pub all : (i : ℕ) → i < length fragments → is_in order i ≡ true
  pub below : (k i : ℕ) → slice_get order k ≡ Some i → i < length fragments
  pub after : (k i : ℕ) (f : Fragment) → slice_get order k ≡ Some i → slice_get fragments i ≡ Some f
      → spreads_in (is_among (take k order) place) f.selection_set ≡ true
