-- The fields that selection sets have, as they are written and without any number, in the order of `merging_members`.
use Rattle.std.specs.Prelude.{◌≡◌, ℕ, zero, suc, ◌+◌, List, [], ◌∷◌, ◌++◌, map, length, Option, Some, slice_get, if◌then◌else◌}
use Rattle.text_place.specs.declared.place.Place.{Place}
use Rattle.gq_parser.specs.Tree.{Field, Spread, Inline, Below, nothing_below, below, SelectionSet, set_at, Selection, Selections, no_selection, and_selection, Operation, Fragment, Document}
use Rattle.merging_members.specs.Fragments.{is_named}
use Rattle.merging_members.specs.Members.{SetOf, members_below, members_of_fragment}
use Rattle.merging_members.specs.Written.{written_fields, own_below}

-- `spread` gives those of the fragment of a name
abbrev mutual
  pub selected_in : (List ℕ → List Selection) → SelectionSet → List Selection
  selected_in spread (set_at p ss) = selected_among spread ss

  pub selected_among : (List ℕ → List Selection) → Selections → List Selection
  selected_among spread no_selection = []
  selected_among spread (and_selection s ss) = selected_from spread s ++ selected_among spread ss

  pub selected_from : (List ℕ → List Selection) → Selection → List Selection
  selected_from spread (Field p alias name as' ds b) = Field p alias name as' ds b ∷ []
  selected_from spread (Spread p name ds) = spread name
  selected_from spread (Inline p c ds s) = selected_in spread s

abbrev pub selected_below : (List ℕ → List Selection) → Below → List Selection
selected_below spread nothing_below = []
selected_below spread (below s) = selected_in spread s

-- those of the first fragment of a name among these
abbrev pub selected_named : (List ℕ → List Selection) → List Fragment → List ℕ → List Selection
selected_named spread [] name = []
selected_named spread (f ∷ fs) name =
    if is_named name f then selected_in spread f.selection_set else selected_named spread fs name

-- those of a fragment, where at most k fragments are entered, one inside another
abbrev pub selected_entered : ℕ → Document → List ℕ → List Selection
selected_entered zero d name = []
selected_entered (suc k) d name = selected_named (selected_entered k d) d.fragments name

abbrev pub selected_by_fragment : Document → List ℕ → List Selection
selected_by_fragment d = selected_entered (length d.fragments) d

-- a selection set, with the fields that it has
pub record SelectedBy : Type 0 where
  pub place : Place
  pub fields : List (Option Selection)

abbrev pub selecting : (List ℕ → List Selection) → SelectionSet → SelectedBy
selecting spread (set_at p ss) = record { place = p; fields = map Some (selected_among spread ss) }

-- the sets of a document, each after those inside it
abbrev mutual
  pub selecting_in : (List ℕ → List Selection) → SelectionSet → List SelectedBy
  selecting_in spread (set_at p ss) =
      selecting_among spread ss ++ selecting spread (set_at p ss) ∷ []

  pub selecting_among : (List ℕ → List Selection) → Selections → List SelectedBy
  selecting_among spread no_selection = []
  selecting_among spread (and_selection s ss) = selecting_from spread s ++ selecting_among spread ss

  pub selecting_from : (List ℕ → List Selection) → Selection → List SelectedBy
  selecting_from spread (Field p alias name as' ds b) = selecting_below spread b
  selecting_from spread (Spread p name ds) = []
  selecting_from spread (Inline p c ds s) = selecting_in spread s

  pub selecting_below : (List ℕ → List Selection) → Below → List SelectedBy
  selecting_below spread nothing_below = []
  selecting_below spread (below s) = selecting_in spread s

abbrev pub selecting_operations : (List ℕ → List Selection) → List Operation → List SelectedBy
selecting_operations spread [] = []
selecting_operations spread (o ∷ os) =
    selecting_in spread o.selection_set ++ selecting_operations spread os

abbrev pub selecting_fragments : (List ℕ → List Selection) → List Fragment → List SelectedBy
selecting_fragments spread [] = []
selecting_fragments spread (f ∷ fs) =
    selecting_in spread f.selection_set ++ selecting_fragments spread fs

abbrev pub selecting_sets : Document → List SelectedBy
selecting_sets d = selecting_operations (selected_by_fragment d) d.operations
    ++ selecting_fragments (selected_by_fragment d) d.fragments

-- a set whose members are looked up by their numbers among all fields
abbrev pub looked_up : List Selection → SetOf → SelectedBy
looked_up all s = record { place = s.place; fields = map (slice_get all) s.members }

-- ---- the own set of a field

-- the field has this number among the fields as they are written
abbrev pub HasNumber : Document → ℕ → Selection → Type 0
HasNumber d a f = slice_get (written_fields d) a ≡ Some f

-- gives what these numbers name among the fields as they are written
abbrev pub named_fields : Document → List ℕ → List (Option Selection)
named_fields d numbers = map (slice_get (written_fields d)) numbers

-- its members, where the field has the number a
abbrev pub own_members : Document → ℕ → Selection → List ℕ
own_members d a f = members_below (members_of_fragment d) (a + 1) (own_below f)

-- the fields that it has
abbrev pub own_selected : Document → Selection → List Selection
own_selected d f = selected_below (selected_by_fragment d) (own_below f)
