-- Definitions of what a walk knows of the fragments of a document, and what it finds by that. Where `spread` gives the members of
-- the fragment of each name, `members` gives those of a part of the document.
use Rattle.std.specs.Prelude.{◌≡◌, ◌++◌, ℕ, Bool, true, List, find, Option, Some, slice_get}
use Rattle.gq_parser.specs.Tree.{Below, Selection, SelectionSet, Fragment, Document, document_of, set_of}
use Rattle.merging_pairs.specs.declared.sets.ReachedFields.{ReachedFields}
use Rattle.merging_pairs.specs.Entered.{IsReached}
use Rattle.merging_members.specs.declared.known.NumberedDocument.{NumberedDocument}
use Rattle.merging_members.specs.declared.known.FragmentMembers.{FragmentMembers}
use Rattle.merging_members.specs.declared.meeting.Met.{Met}
use Rattle.merging_members.specs.declared.visiting.ClashingSet.{ClashingSet}
use Rattle.merging_members.specs.Fragments.{place_in, target_at}
use Rattle.merging_members.specs.Meeting.{IsMet, IsSpread}
use Rattle.merging_members.specs.Members.{SetOf, count_operations, members_in, members_from, members_named}
use Rattle.merging_members.specs.Ranked.{spreads_in, spreads_from}
use Rattle.merging_members.specs.SetMembers.{renumbered, KnowsAt, KnowsSome, Knows, IsFixed, is_key, AreClashingAdded}
use Rattle.merging_members.specs.Written.{AreOwn, AreAdded}

-- ---- what a walk knows

-- its knowledge of each fragment is what `spread` gives
abbrev pub IsKnown : FragmentMembers → (List ℕ → List ℕ) → Type 0
IsKnown w spread = Knows w.rows.now w.numbers.now w.fragments.now (target_at w.targets.now) spread

-- says the same of each fragment whose name passes a test
abbrev pub IsKnownWhere : FragmentMembers → (List ℕ → List ℕ) → (List ℕ → Bool) → Type 0
IsKnownWhere w spread test =
    KnowsSome test w.rows.now w.numbers.now w.fragments.now (target_at w.targets.now) spread

-- says the same of the fragment of a name
abbrev pub IsKnownAt : FragmentMembers → (List ℕ → List ℕ) → List ℕ → Type 0
IsKnownAt w spread name =
    KnowsAt w.rows.now w.numbers.now w.fragments.now (spread name) (target_at w.targets.now name)

-- ---- what it reaches

-- these fields are reached, by their numbers in the document
abbrev pub Reaches : FragmentMembers → List ℕ → ReachedFields → Type 0
Reaches w ms reached = IsReached w.rows.now (renumbered w.numbers.now ms) reached

-- the members of a part are reached
abbrev pub ReachesAll : FragmentMembers → ((List ℕ → List ℕ) → List ℕ) → ReachedFields → Type 0
ReachesAll w members reached = (spread : List ℕ → List ℕ)
    → IsKnown w spread → Reaches w (members spread) reached

-- the members of a part are reached beside those that were
abbrev pub Gains : FragmentMembers → ((List ℕ → List ℕ) → List ℕ)
    → ReachedFields → ReachedFields → Type 0
Gains w members old new = (spread : List ℕ → List ℕ) (ms : List ℕ)
    → IsKnown w spread → Reaches w ms old → Reaches w (ms ++ members spread) new

-- The members of a part are reached, by themselves or beside others, where those fragments at least
-- are known whose names pass a test; `passes` says whether the names of all spreads of the part do.
abbrev pub ReachesWhere : FragmentMembers → ((List ℕ → Bool) → Bool)
    → ((List ℕ → List ℕ) → List ℕ) → ReachedFields → Type 0
ReachesWhere w passes members reached = (spread : List ℕ → List ℕ) (test : List ℕ → Bool)
    → IsKnownWhere w spread test → passes test ≡ true
    → Reaches w (members spread) reached

abbrev pub GainsWhere : FragmentMembers → ((List ℕ → Bool) → Bool)
    → ((List ℕ → List ℕ) → List ℕ) → ReachedFields → ReachedFields → Type 0
GainsWhere w passes members old new = (spread : List ℕ → List ℕ) (test : List ℕ → Bool)
    (ms : List ℕ) → IsKnownWhere w spread test → passes test ≡ true
    → Reaches w ms old → Reaches w (ms ++ members spread) new

-- the members of a selection set, the first field of which has the number n, and those of a selection
abbrev pub GainsIn : FragmentMembers → ℕ → SelectionSet → ReachedFields → ReachedFields → Type 0
GainsIn w n s old new =
    GainsWhere w (λ test. spreads_in test s) (λ spread. members_in spread n s) old new

abbrev pub GainsFrom : FragmentMembers → ℕ → Selection → ReachedFields → ReachedFields → Type 0
GainsFrom w n s old new =
    GainsWhere w (λ test. spreads_from test s) (λ spread. members_from spread n s) old new

-- the members of the fragment of a name, which is known, are reached beside those that were
abbrev pub GainsAt : FragmentMembers → List ℕ → ReachedFields → ReachedFields → Type 0
GainsAt w name old new = (spread : List ℕ → List ℕ) (ms : List ℕ)
    → IsKnownAt w spread name → Reaches w ms old → Reaches w (ms ++ spread name) new

-- ---- what it adds

-- rows are added for these fields, the first of which has the number n
abbrev pub AddsRows : FragmentMembers → ℕ → List Below → List (List ℕ) → List (List ℕ) → Type 0
AddsRows w n bs old new = (spread : List ℕ → List ℕ)
    → IsKnown w spread → AreAdded w.numbers.now spread n bs old new

-- the rows are those of these fields, from the number 0
abbrev pub HasRows : FragmentMembers → List Below → List (List ℕ) → Type 0
HasRows w bs rows = (spread : List ℕ → List ℕ)
    → IsKnown w spread → AreOwn w.numbers.now spread 0 bs rows

-- those of these sets are added in which two fields clash
abbrev pub AddsClashing : FragmentMembers → ((List ℕ → List ℕ) → List SetOf)
    → List ClashingSet → List ClashingSet → Type 0
AddsClashing w sets old new = (spread : List ℕ → List ℕ) → IsKnown w spread
    → AreClashingAdded w.rows.now w.numbers.now spread (sets spread) old new

-- ---- what it meets

-- the first of these fields is met that is among the keys
abbrev pub IsFirstMet : FragmentMembers → List ℕ → (List ℕ → List ℕ) → List ℕ → Option Met → Type 0
IsFirstMet w keys spread ms met = IsMet (target_at w.targets.now) spread (is_key keys w.numbers.now)
    (find (is_key keys w.numbers.now) ms) met

-- the first of the members of a part
abbrev pub MeetsFirst : FragmentMembers → List ℕ
    → ((List ℕ → List ℕ) → List ℕ) → Option Met → Type 0
MeetsFirst w keys members met = (spread : List ℕ → List ℕ)
    → IsKnown w spread → IsFirstMet w keys spread (members spread) met

-- a fragment that is met is that of a name that passes each test that the names of all spreads of the part pass
abbrev pub MeetsSpread : FragmentMembers → ((List ℕ → Bool) → Bool) → Option Met → Type 0
MeetsSpread w passes met = (test : List ℕ → Bool)
    → passes test ≡ true → IsSpread (target_at w.targets.now) test met

-- ---- what is known before there is a walk

abbrev pub document_in : NumberedDocument → Document
document_in s = document_of s.document.now

-- the fragment of a name has this number
abbrev pub IsNumberOf : NumberedDocument → List ℕ → ℕ → Type 0
IsNumberOf s name j = place_in (document_in s).fragments name ≡ Some j

-- the members of the fragment of a name, by those of the fragments that it spreads
abbrev pub members_at : NumberedDocument → (List ℕ → List ℕ) → List ℕ → List ℕ
members_at s spread name = members_named spread (count_operations (document_in s).operations)
    (document_in s).fragments name

-- the members of the fragment of a number are those of the set
abbrev pub HasMembersAt : NumberedDocument → ℕ → ClashingSet → Type 0
HasMembersAt s j set = (spread : List ℕ → List ℕ) (name : List ℕ) → IsNumberOf s name j
    → members_at s spread name ≡ members_in spread set.first (set_of set.set.now)

-- a table says of each fragment what `spread` gives
abbrev pub IsTableKnown : NumberedDocument → List ReachedFields → (List ℕ → List ℕ) → Type 0
IsTableKnown s table spread =
    Knows s.rows.now s.numbers.now table (place_in (document_in s).fragments) spread

-- the first of a set's members is found that is among the keys, where a table has what each fragment has
abbrev pub FindsFirst : NumberedDocument → List ReachedFields
    → List ℕ → ClashingSet → Option ℕ → Type 0
FindsFirst s table keys set found = (spread : List ℕ → List ℕ)
    → IsTableKnown s table spread → IsFixed spread (document_in s)
    → found ≡ find (is_key keys s.numbers.now) (members_in spread set.first (set_of set.set.now))

-- This holds of the members of the fragment of a number, by their numbers in the table of pairs, where a table has what the
-- fragments that it spreads have.
abbrev pub LearnsOf : NumberedDocument → List ReachedFields → ℕ → (List ℕ → Type 0) → Type 0
LearnsOf s table j P =
    (spread : List ℕ → List ℕ) (name : List ℕ) (test : List ℕ → Bool) (f : Fragment)
    → KnowsSome test s.rows.now s.numbers.now table (place_in (document_in s).fragments) spread
    → IsNumberOf s name j → slice_get (document_in s).fragments j ≡ Some f
    → spreads_in test f.selection_set ≡ true
    → P (renumbered s.numbers.now (members_at s spread name))
