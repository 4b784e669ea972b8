-- Definitions of what is known where the members of selection sets are gathered. Fields have other numbers in a table of
-- pairs than in their document.
use Rattle.std.specs.Prelude.{◌≡◌, ◌<◌, ◌≤◌, ◌+◌, ◌++◌, ℕ, Bool, true, List, [], map, filter, All, slice_index_or, slice_get, Option, Some, None, IfSome}
use Rattle.gq_parser.specs.Tree.{Document, SelectionSet, set_at, set_of}
use Rattle.text_place.specs.declared.place.Place.{Place}
use Rattle.merging_pairs.specs.declared.sets.ReachedFields.{ReachedFields}
use Rattle.merging_pairs.specs.Entered.{IsReached}
use Rattle.merging_pairs.specs.Clashes.{has_clash}
use Rattle.merging_pairs.specs.Sets.{has}
use Rattle.merging_pairs.specs.Table.{fail}
use Rattle.merging_members.specs.declared.visiting.ClashingSet as rust
use Rattle.merging_members.specs.Members.{SetOf, count_in, count_operations, members_in, members_named, own_set}

-- the number that a field has in the table
abbrev pub to : List ℕ → ℕ → ℕ
to numbers a = slice_index_or numbers a 0

abbrev pub renumbered : List ℕ → List ℕ → List ℕ
renumbered numbers ms = map (to numbers) ms

-- two fields clash, by their numbers in the document
abbrev pub clash : List (List ℕ) → List ℕ → ℕ → ℕ → Bool
clash rows numbers a b = fail rows (to numbers a) (to numbers b)

-- the members known of the fragment of a number are these; a name of no fragment has none
abbrev pub KnowsAt : List (List ℕ) → List ℕ → List ReachedFields → List ℕ → Option ℕ → Type 0
KnowsAt rows numbers fragments ms None = ms ≡ []
KnowsAt rows numbers fragments ms (Some j) =
    IfSome (slice_get fragments j) (IsReached rows (renumbered numbers ms))

-- the members of each fragment whose name passes a test are those that `spread` gives, where `place` gives its number
abbrev pub KnowsSome : (List ℕ → Bool) → List (List ℕ) → List ℕ
    → List ReachedFields → (List ℕ → Option ℕ) → (List ℕ → List ℕ) → Type 0
KnowsSome test rows numbers fragments place spread = (name : List ℕ)
    → test name ≡ true → KnowsAt rows numbers fragments (spread name) (place name)

-- says the same of all fragments
abbrev pub Knows : List (List ℕ) → List ℕ → List ReachedFields
    → (List ℕ → Option ℕ) → (List ℕ → List ℕ) → Type 0
Knows rows numbers fragments place spread = (name : List ℕ)
    → KnowsAt rows numbers fragments (spread name) (place name)

-- the numbers that `place` gives are those of fragments below `count`
abbrev pub AreThere : (List ℕ → Option ℕ) → ℕ → Type 0
AreThere place count = (name : List ℕ) (j : ℕ) → place name ≡ Some j → j < count

-- ---- sets with a clash

abbrev pub is_clashing : List (List ℕ) → List ℕ → SetOf → Bool
is_clashing rows numbers s = has_clash (clash rows numbers) s.members

abbrev pub place_of : SelectionSet → Place
place_of (set_at p ss) = p

-- gives what a set says, where `spread` gives the members of fragments
abbrev pub clashing_of : (List ℕ → List ℕ) → rust.ClashingSet → SetOf
clashing_of spread c =
    let s = set_of c.set.now in record { place = place_of s; members = members_in spread c.first s }

-- the field is among these of the table, by its number in the document
abbrev pub is_key : List ℕ → List ℕ → ℕ → Bool
is_key keys numbers f = has keys (to numbers f)

-- the members of a fragment are those of its set
abbrev pub IsFixed : (List ℕ → List ℕ) → Document → Type 0
IsFixed spread d = (name : List ℕ)
    → spread name ≡ members_named spread (count_operations d.operations) d.fragments name

-- the fields of a set have numbers below `many`
abbrev pub IsInside : ℕ → rust.ClashingSet → Type 0
IsInside many c = c.first + count_in (set_of c.set.now) ≤ many

-- so have all of these
abbrev pub AreInside : ℕ → List rust.ClashingSet → Type 0
AreInside many cs = All (IsInside many) cs

-- a list of sets has gained those of these in which two fields clash
abbrev pub AreClashingAdded : List (List ℕ) → List ℕ → (List ℕ → List ℕ)
    → List SetOf → List rust.ClashingSet → List rust.ClashingSet → Type 0
AreClashingAdded rows numbers spread sets old new = map (clashing_of spread) new
    ≡ map (clashing_of spread) old ++ filter (is_clashing rows numbers) sets

-- It has gained this set, whose members are reached, if two of them clash. The first field of the set has the number `first`.
abbrev pub AddsIfClashing : ReachedFields → ℕ → SelectionSet
    → List rust.ClashingSet → List rust.ClashingSet → Type 0
AddsIfClashing reached first set old new =
    (rows : List (List ℕ)) (numbers : List ℕ) (spread : List ℕ → List ℕ)
    → IsReached rows (renumbered numbers (members_in spread first set)) reached
    → AreClashingAdded rows numbers spread (own_set spread first set) old new
