-- The fields of a document under their numbers in the table of pairs.
use Rattle.std.specs.Prelude.{◌≡◌, ◌<◌, ◌≤◌, ◌+◌, ℕ, List, [], ◌∷◌, length, Some, slice_get}
use Rattle.merging_pairs.specs.declared.field.Field as table
use Rattle.merging_pairs.specs.Numbered.{is_in}
use Rattle.merging_pairs.specs.Sets.{has}
use Rattle.gq_parser.specs.Tree.{Field, Selection}
use Rattle.merging_members.specs.Members.{count_below, members_below}
use Rattle.merging_members.specs.SetMembers.{to, renumbered}
use Rattle.merging_members.specs.Written.{written_fields, belows, AreOwn}
use Rattle.rules_parts.specs.Parts.{FieldPart, PartsOf}
use Rattle.merging_fields.specs.declared.attributes.Attribute.TheVariants.{Key, Selected, Parent, Shape}
use Rattle.merging_fields.specs.Attributes.{number_of}
use Rattle.merging_fields.specs.Compare.{is_object_parent}

-- a field as it is written
abbrev pub as_written : FieldPart → Selection
as_written f = Field f.place f.alias f.name f.arguments f.directives f.below

-- says what the table says of the field of the number a, where `spread` gives the members of fragments
pub record IsNumbered (p : PartsOf) (numbers : List ℕ) (spread : List ℕ → List ℕ) (a : ℕ)
    (f : FieldPart) (x : table.Field) : Type 0 where
  pub key : x.key ≡ number_of Key p.definitions p.fields f
  pub name : x.name ≡ number_of Selected p.definitions p.fields f
  pub arguments : x.arguments ≡ 0
  pub parent : x.parent ≡ number_of Parent p.definitions p.fields f
  pub object : x.object ≡ is_object_parent p.definitions f
  pub shape : x.shape ≡ number_of Shape p.definitions p.fields f
  pub members : (i : ℕ)
      → has x.members i ≡ is_in (renumbered numbers (members_below spread (a + 1) f.below)) i

-- the fields of a table are those of these numbers, in this order
abbrev pub AreNumbered : PartsOf → List ℕ → (List ℕ → List ℕ) → List ℕ → List table.Field → Type 0
AreNumbered p numbers spread [] [] = Unit {0}
AreNumbered p numbers spread (a ∷ order) (x ∷ fields) =
    ((f : FieldPart) → slice_get p.fields a ≡ Some f → IsNumbered p numbers spread a f x)
    × AreNumbered p numbers spread order fields
AreNumbered p numbers spread [] (x ∷ fields) = ⊥
AreNumbered p numbers spread (a ∷ order) [] = ⊥

-- the fields below each of these have numbers of these
abbrev pub AreInside : List FieldPart → Type 0
AreInside fields = (a : ℕ) (f : FieldPart) → slice_get fields a ≡ Some f
    → (a + 1) + count_below f.below ≤ length fields

-- the order has each field of the document at its number
abbrev pub IsInverse : List ℕ → List ℕ → ℕ → Type 0
IsInverse order numbers n = (a : ℕ) → a < n → slice_get order (to numbers a) ≡ Some a

-- each row has the members of the own set of its field
abbrev pub AreOwnRows : PartsOf → List ℕ → (List ℕ → List ℕ) → List (List ℕ) → Type 0
AreOwnRows p numbers spread rows = AreOwn numbers spread 0 (belows (written_fields p.document)) rows

-- this holds of the field of the number a, where the rows have the members of the own sets of all fields
abbrev pub ForFieldAt : PartsOf → List (List ℕ) → ℕ
    → (List ℕ → (List ℕ → List ℕ) → FieldPart → Type 0) → Type 0
ForFieldAt p rows a P = (numbers : List ℕ) (spread : List ℕ → List ℕ) (f : FieldPart)
    → AreOwnRows p numbers spread rows
    → slice_get p.fields a ≡ Some f → P numbers spread f

-- the fields of a table are those of these numbers, where the rows have the members of the own sets of all fields
abbrev pub AreNumberedBy : PartsOf → List (List ℕ) → List ℕ → List table.Field → Type 0
AreNumberedBy p rows order fields = (numbers : List ℕ) (spread : List ℕ → List ℕ)
    → AreOwnRows p numbers spread rows → AreNumbered p numbers spread order fields
