-- The fields of a document as they are written, each before those below it. The numbers of fields are their places in this list,
-- from 0.
use Rattle.std.specs.Prelude.{◌≡◌, ◌+◌, ℕ, List, [], ◌∷◌, ◌++◌, map}
use Rattle.gq_parser.specs.Tree.{Field, Spread, Inline, Below, nothing_below, below, SelectionSet, set_at, Selection, Selections, no_selection, and_selection, Operation, Fragment, Document}
use Rattle.merging_pairs.specs.Numbered.{is_in}
use Rattle.merging_pairs.specs.Sets.{has}
use Rattle.merging_members.specs.Members.{members_below}
use Rattle.merging_members.specs.SetMembers.{renumbered}

abbrev mutual
  pub written_in : SelectionSet → List Selection
  written_in (set_at p ss) = written_among ss

  pub written_among : Selections → List Selection
  written_among no_selection = []
  written_among (and_selection s ss) = written_from s ++ written_among ss

  pub written_from : Selection → List Selection
  written_from (Field p alias name as' ds b) = Field p alias name as' ds b ∷ written_below b
  written_from (Spread p name ds) = []
  written_from (Inline p c ds s) = written_in s

  pub written_below : Below → List Selection
  written_below nothing_below = []
  written_below (below s) = written_in s

abbrev pub written_operations : List Operation → List Selection
written_operations [] = []
written_operations (o ∷ os) = written_in o.selection_set ++ written_operations os

abbrev pub written_fragments : List Fragment → List Selection
written_fragments [] = []
written_fragments (f ∷ fs) = written_in f.selection_set ++ written_fragments fs

-- those of operations, and then those of fragments
abbrev pub written_fields : Document → List Selection
written_fields d = written_operations d.operations ++ written_fragments d.fragments

-- gives what stands below a field
abbrev pub own_below : Selection → Below
own_below (Field p alias name as' ds b) = b
own_below (Spread p name ds) = nothing_below
own_below (Inline p c ds s) = nothing_below

-- gives what stands below each of these fields
abbrev pub belows : List Selection → List Below
belows fs = map own_below fs

-- ---- the members of the own sets of fields

-- a row has these, under their numbers in the table of pairs
abbrev pub HasAll : List ℕ → List ℕ → List ℕ → Type 0
HasAll numbers row ms = (i : ℕ) → has row i ≡ is_in (renumbered numbers ms) i

-- Each row has the members of the own set of its field, where `spread` gives those of fragments. The first field has the number n.
abbrev pub AreOwn : List ℕ → (List ℕ → List ℕ) → ℕ → List Below → List (List ℕ) → Type 0
AreOwn numbers spread n [] [] = Unit {0}
AreOwn numbers spread n (b ∷ bs) (r ∷ rs) = HasAll numbers r (members_below spread (n + 1) b)
    × AreOwn numbers spread (n + 1) bs rs
AreOwn numbers spread n [] (r ∷ rs) = ⊥
AreOwn numbers spread n (b ∷ bs) [] = ⊥

-- further rows, which are those of these fields
pub record AreAdded (numbers : List ℕ) (spread : List ℕ → List ℕ) (n : ℕ) (bs : List Below)
    (old new : List (List ℕ)) : Type 0 where
  pub rows : List (List ℕ)
  pub whole : new ≡ old ++ rows
  pub own : AreOwn numbers spread n bs rows
