-- Places of a document's fields in the table of pairs: what a field's selection set has comes before the field.
use Rattle.std.specs.Prelude.{◌≡◌, ◌<◌, ◌≤◌, ◌+◌, ◌⊎◌, ℕ, true, List, length, Some, slice_get}
use Rattle.gq_parser.specs.Tree.{Selection, Fragment, Document}
use Rattle.merging_pairs.specs.Numbered.{is_in}
use Rattle.merging_members.specs.declared.numbering.Numbering.{Numbering}
use Rattle.merging_members.specs.Fragments.{place_in}
use Rattle.merging_members.specs.Members.{count_in, count_operations, count_fragments, starts_from, fragment_starts, members_below, members_of_fragment}
use Rattle.merging_members.specs.Ranked.{IsOrder}
use Rattle.merging_members.specs.SetMembers.{to, IsFixed}
use Rattle.merging_members.specs.Written.{written_fields, own_below}

-- the field of this number stands at its place in the order
abbrev pub HasPlace : List ℕ → List ℕ → ℕ → Type 0
HasPlace order numbers a = slice_get order (to numbers a) ≡ Some a

-- the field of the number c is a member of the own selection set of that of the number a
pub record IsOwn (d : Document) (a c : ℕ) : Type 0 where
  pub field : Selection
  pub here : slice_get (written_fields d) a ≡ Some field
  pub member : is_in (members_below (members_of_fragment d) (a + 1) (own_below field)) c ≡ true

-- An order of some fields, with the place of each: before a field stand the members of its own selection set.
pub record ArePlaced (d : Document) (order numbers : List ℕ) : Type 0 where
  pub back : (k a : ℕ) → slice_get order k ≡ Some a → (a < length numbers) × (to numbers a ≡ k)
  pub after : (k a c : ℕ) → slice_get order k ≡ Some a
      → IsOwn d a c → HasPlace order numbers c × (to numbers c < k)

-- The fragments of a document as places are given to their fields: each after those that it spreads, with the number of its first
-- field.
pub record HasFragments (d : Document) (starts fragments : List ℕ) : Type 0 where
  pub started : starts ≡ fragment_starts d
  pub ordered : IsOrder fragments (place_in d.fragments) d.fragments
  pub fixed : IsFixed (members_of_fragment d) d

-- the members of the own sets of the fields from `first` on stand after them before `end`, or have a place
abbrev pub AreReady : Document → List ℕ → List ℕ → ℕ → ℕ → Type 0
AreReady d order numbers first end = (a c : ℕ) → first ≤ a → a < end
    → IsOwn d a c → ((a < c) × (c < end)) ⊎ HasPlace order numbers c

-- this holds of each of these
abbrev pub Each : (ℕ → Type 0) → List ℕ → Type 0
Each P ms = (c : ℕ) → is_in ms c ≡ true → P c

-- A part of an order in which all fields of these fragments stand, with the members of each.
pub record AreDone (d : Document) (done order numbers : List ℕ) : Type 0 where
  pub placed : ArePlaced d order numbers
  pub members : (name : List ℕ) (j : ℕ) → place_in d.fragments name ≡ Some j
      → is_in done j ≡ true → Each (HasPlace order numbers) (members_of_fragment d name)
  pub fields : (j s : ℕ) (f : Fragment) → is_in done j ≡ true → slice_get d.fragments j ≡ Some f
      → slice_get (starts_from (count_operations d.operations) d.fragments) j ≡ Some s
      → (a : ℕ) → s ≤ a → a < s + count_in f.selection_set → HasPlace order numbers a

-- an order of all fields
pub record IsNumbering (d : Document) (order numbers : List ℕ) : Type 0 where
  pub many : length numbers ≡ count_operations d.operations + count_fragments d.fragments
  pub len : length order ≡ length numbers
  pub all : (a : ℕ) → a < length numbers → HasPlace order numbers a
  pub placed : ArePlaced d order numbers

-- ---- the same of a numbering, which has an order and places

abbrev pub HasPlaceIn : Numbering → ℕ → Type 0
HasPlaceIn n a = HasPlace n.order.items n.numbers.items a

abbrev pub ArePlacedIn : Document → Numbering → Type 0
ArePlacedIn d n = ArePlaced d n.order.items n.numbers.items

-- the members of the own selection set of a field have a place
abbrev pub OwnHavePlaces : Document → Numbering → ℕ → Type 0
OwnHavePlaces d n a = (c : ℕ) → IsOwn d a c → HasPlaceIn n c

abbrev pub AreReadyIn : Document → Numbering → ℕ → ℕ → Type 0
AreReadyIn d n first end = AreReady d n.order.items n.numbers.items first end
