-- The fields of a document by their numbers, which are their places in the list of its fields from 0, and the members of its
-- selection sets (section 5.3.2). A field's number is that of the first field of its own selection set less one.
use Rattle.std.specs.Prelude.{ℕ, zero, suc, ◌+◌, ◌-◌, ◌^◌, min, List, [], ◌∷◌, ◌++◌, length, if◌then◌else◌}
use Rattle.text_place.specs.declared.place.Place.{Place}
use Rattle.gq_parser.specs.Tree.{Field, Spread, Inline, Below, nothing_below, below, SelectionSet, set_at, Selection, Selections, no_selection, and_selection, Operation, Fragment, Document}
use Rattle.merging_members.specs.Fragments.{is_named}

-- ---- how many fields stand in a part of a document, each counted where it is written

abbrev mutual
  pub count_in : SelectionSet → ℕ
  count_in (set_at p ss) = count_among ss

  pub count_among : Selections → ℕ
  count_among no_selection = 0
  count_among (and_selection s ss) = count_from s + count_among ss

  pub count_from : Selection → ℕ
  count_from (Field p alias name as' ds b) = count_below b + 1
  count_from (Spread p name ds) = 0
  count_from (Inline p c ds s) = count_in s

  pub count_below : Below → ℕ
  count_below nothing_below = 0
  count_below (below s) = count_in s

abbrev pub count_operations : List Operation → ℕ
count_operations [] = 0
count_operations (o ∷ os) = count_in o.selection_set + count_operations os

-- the fields of fragments, each counted where it is written
abbrev pub count_fragments : List Fragment → ℕ
count_fragments [] = 0
count_fragments (f ∷ fs) = count_in f.selection_set + count_fragments fs

-- the fields of a document
abbrev pub count_fields : Document → ℕ
count_fields d = count_operations d.operations + count_fragments d.fragments

-- a count up to the greatest that there is
abbrev pub capped : ℕ → ℕ
capped n = min n (2 ^ 64 - 1)

-- the number of the first field of each of these fragments, of which the first begins with the number n
abbrev pub starts_from : ℕ → List Fragment → List ℕ
starts_from n [] = []
starts_from n (f ∷ fs) = n ∷ starts_from (n + count_in f.selection_set) fs

-- the number of the first field of each fragment of a document
abbrev pub fragment_starts : Document → List ℕ
fragment_starts d = starts_from (count_operations d.operations) d.fragments

-- ---- the members of a set, in order of first meeting, where n is the number of the first field in it. A field that is met again
-- stands in the list again.

-- `spread` gives those of the fragment of a name
abbrev mutual
  pub members_in : (List ℕ → List ℕ) → ℕ → SelectionSet → List ℕ
  members_in spread n (set_at p ss) = members_among spread n ss

  pub members_among : (List ℕ → List ℕ) → ℕ → Selections → List ℕ
  members_among spread n no_selection = []
  members_among spread n (and_selection s ss) =
      members_from spread n s ++ members_among spread (n + count_from s) ss

  pub members_from : (List ℕ → List ℕ) → ℕ → Selection → List ℕ
  members_from spread n (Field p alias name as' ds b) = n ∷ []
  members_from spread n (Spread p name ds) = spread name
  members_from spread n (Inline p c ds s) = members_in spread n s

abbrev pub members_below : (List ℕ → List ℕ) → ℕ → Below → List ℕ
members_below spread n nothing_below = []
members_below spread n (below s) = members_in spread n s

-- those of the first fragment of a name among these, the first of which has the number n as its first field's
abbrev pub members_named : (List ℕ → List ℕ) → ℕ → List Fragment → List ℕ → List ℕ
members_named spread n [] name = []
members_named spread n (f ∷ fs) name = if is_named name f then members_in spread n f.selection_set
    else members_named spread (n + count_in f.selection_set) fs name

-- those of a fragment, where at most k fragments are entered, one inside another
abbrev pub members_entered : ℕ → Document → List ℕ → List ℕ
members_entered zero d name = []
members_entered (suc k) d name =
    members_named (members_entered k d) (count_operations d.operations) d.fragments name

-- Those of a fragment. Without cycles no more fragments are entered, one inside another, than there are.
abbrev pub members_of_fragment : Document → List ℕ → List ℕ
members_of_fragment d = members_entered (length d.fragments) d

-- ---- the selection sets, each with the place of its `{` and its members

pub record SetOf : Type 0 where
  pub place : Place
  pub members : List ℕ

-- a set alone
abbrev pub own_set : (List ℕ → List ℕ) → ℕ → SelectionSet → List SetOf
own_set spread n (set_at p ss) = record { place = p; members = members_among spread n ss } ∷ []

abbrev mutual
  pub sets_in : (List ℕ → List ℕ) → ℕ → SelectionSet → List SetOf
  sets_in spread n (set_at p ss) = sets_among spread n ss ++ own_set spread n (set_at p ss)

  pub sets_among : (List ℕ → List ℕ) → ℕ → Selections → List SetOf
  sets_among spread n no_selection = []
  sets_among spread n (and_selection s ss) =
      sets_from spread n s ++ sets_among spread (n + count_from s) ss

  pub sets_from : (List ℕ → List ℕ) → ℕ → Selection → List SetOf
  sets_from spread n (Field p alias name as' ds b) = sets_below spread (n + 1) b
  sets_from spread n (Spread p name ds) = []
  sets_from spread n (Inline p c ds s) = sets_in spread n s

  pub sets_below : (List ℕ → List ℕ) → ℕ → Below → List SetOf
  sets_below spread n nothing_below = []
  sets_below spread n (below s) = sets_in spread n s

abbrev pub operation_sets : (List ℕ → List ℕ) → ℕ → List Operation → List SetOf
operation_sets spread n [] = []
operation_sets spread n (o ∷ os) =
    sets_in spread n o.selection_set ++ operation_sets spread (n + count_in o.selection_set) os

abbrev pub fragment_sets : (List ℕ → List ℕ) → ℕ → List Fragment → List SetOf
fragment_sets spread n [] = []
fragment_sets spread n (f ∷ fs) =
    sets_in spread n f.selection_set ++ fragment_sets spread (n + count_in f.selection_set) fs

-- those of operations, and then those of fragments, each after those inside it
abbrev pub sets_of : Document → List SetOf
sets_of d = operation_sets (members_of_fragment d) 0 d.operations
    ++ fragment_sets (members_of_fragment d) (count_operations d.operations) d.fragments
