-- Definitions of rows that a host lays out in any order: each row has its key in columns of its own, and goes to that key, unless that has a
-- fault.
use Rattle.std.specs.Prelude.{ℕ, ◌≡◌, ◌==◌, ◌<◌, ◌+◌, ◌*◌, All, Bool, List, [], map, drop, filter, length, zip, IsSome, IsUtf8, Option, None, Some, position, bytes_eq, not}
use Rattle.std.specs.List.{enumerate_from, list_any}
use Rattle.std.specs.List.Sorted.{IsStrictlyIncreasing}
use Rattle.std.specs.Map.{lookup}
use Rattle.load_memory.specs.Cells.{IsCut, cut}
use Rattle.load_memory.specs.Keys.{KeyOf, all, text, pair, borrowed_of, folded, same_key}
use Rattle.load_memory.specs.Outcomes.{ItemOf, rows, key_fault}
use Rattle.load_memory.specs.Rows.{RowOf, SheetOf, cell_of, paired}
use Rattle.load_memory.specs.declared.key.KeyMode.{KeyMode}
use Rattle.flat_rows.specs.Faults.{TextFault}
use Rattle.flat_rows.specs.Replies.{sheet_said}
use Rattle.flat_rows.specs.declared.fault.FlatFault.{FlatFault}
use Rattle.flat_rows.specs.declared.fault.FlatFault.TheVariants as flat
use Rattle.flat_rows.specs.declared.keyed.KeyedBy.{KeyedBy}
use Rattle.flat_rows.specs.declared.keyed.KeyedFault.{KeyedFault}
use Rattle.flat_rows.specs.declared.keyed.KeyedFault.TheVariants as fault
use Rattle.flat_rows.specs.declared.keyed.KeyedReply.{KeyedReply}

-- ---- the key of a row

-- says where rows have their keys, and how a loader compares these: the names of the columns stand as the texts of a key stand
pub record ByOf : Type 0 where
  pub columns : KeyOf
  pub mode : KeyMode

abbrev pub by_of : KeyedBy → ByOf
by_of by = record { columns = borrowed_of by.columns; mode = by.mode }

-- a text that is there, or the empty one
abbrev pub text_or_empty : Option (List ℕ) → List ℕ
text_or_empty None = []
text_or_empty (Some t) = t

-- what a row has in the first column of that name
abbrev pub field_in : RowOf → List ℕ → List ℕ
field_in row name = text_or_empty (cell_of row name)

-- the key whose texts are what the row has in these columns
abbrev pub key_in : KeyOf → RowOf → KeyOf
key_in all row = all
key_in (text one) row = text (field_in row one)
key_in (pair one two) row = pair (field_in row one) (field_in row two)

-- tells whether the loader takes two keys for the same
abbrev pub is_same : KeyMode → KeyOf → KeyOf → Bool
is_same mode one other = same_key (folded mode one) (folded mode other)

-- tells whether a row has this key
abbrev pub has_key : ByOf → KeyOf → RowOf → Bool
has_key by key row = is_same by.mode (key_in by.columns row) key

-- ---- what such rows say

-- the rows of a key, in the order given
abbrev pub rows_of : ByOf → List RowOf → KeyOf → List RowOf
rows_of by given key = filter (has_key by key) given

-- An item for each key, in order: its rows. A key that no row has gets none; keys that the loader takes for the same get the same rows.
abbrev pub keyed_items : ByOf → List KeyOf → List RowOf → List ItemOf
keyed_items by keys given = map (λ key. rows (rows_of by given key)) keys

-- tells whether a row has a key that was asked for
abbrev pub is_asked : ByOf → List KeyOf → RowOf → Bool
is_asked by keys row = list_any (λ key. has_key by key row) keys

-- gives the place of the first row that has a key that wasn't asked for
abbrev pub first_unasked : ByOf → List KeyOf → List RowOf → Option ℕ
first_unasked by keys given = position (λ row. not (is_asked by keys row)) given

-- each row has a key that was asked for, so none was left out
abbrev pub AreAsked : ByOf → List KeyOf → List RowOf → Type 0
AreAsked by keys given = first_unasked by keys given ≡ None

-- ---- keys with a fault

-- the places of keys, from 0, and why each of these has a fault
abbrev pub FaultsOf : Type 0
FaultsOf = List (ℕ × List ℕ)

-- gives why the key at a place has a fault, if it has one
abbrev pub fault_at : FaultsOf → ℕ → Option (List ℕ)
fault_at faults place = lookup (λ p. p == place) faults

-- a fault, if there is one, in the place of an item
abbrev pub fault_or : Option (List ℕ) → ItemOf → ItemOf
fault_or None item = item
fault_or (Some why) item = key_fault why

-- An item for each key, in order: its fault if it has one, and else the item that it has here.
abbrev pub with_faults : FaultsOf → List ItemOf → List ItemOf
with_faults faults items =
    map (λ at. fault_or (fault_at faults at.0) at.1) (enumerate_from 0 items)

-- these are places of so many keys, from 0, each greater than the one before
abbrev pub ArePlaces : ℕ → List ℕ → Type 0
ArePlaces keys places = All (λ p. p < keys) places × IsStrictlyIncreasing places

-- ---- rows as a host lays them out: the names of the columns, then the fields of all rows, row after row, and then why keys have a fault

pub record LaidRows : Type 0 where
  pub columns : ℕ
  pub count : ℕ
  pub faults : List ℕ
  pub ends : List ℕ
  pub bytes : List ℕ

abbrev pub laid_rows : KeyedReply → LaidRows
laid_rows r = record {
  columns = r.columns;
  count = r.rows;
  faults = r.faults.now;
  ends = r.ends.now;
  bytes = r.bytes.now;
}

abbrev pub texts_laid : LaidRows → List (List ℕ)
texts_laid r = cut r.bytes 0 r.ends

abbrev pub sheet_laid : LaidRows → SheetOf
sheet_laid r = sheet_said r.columns r.count (texts_laid r)

abbrev pub rows_in_sheet : SheetOf → List RowOf
rows_in_sheet s = map (paired s.names) s.rows

abbrev pub rows_laid : LaidRows → List RowOf
rows_laid r = rows_in_sheet (sheet_laid r)

-- gives how many texts the columns and the rows take
abbrev pub cells_wanted : ℕ → ℕ → ℕ
cells_wanted columns count = columns + count * columns

-- the faults have the texts after those of the rows
abbrev pub faults_laid : LaidRows → FaultsOf
faults_laid r = zip r.faults (drop (cells_wanted r.columns r.count) (texts_laid r))

-- what a reply says: a key's fault stands in the place of its rows, if it has any
abbrev pub replied_items : ByOf → List KeyOf → LaidRows → List ItemOf
replied_items by keys r = with_faults (faults_laid r) (keyed_items by keys (rows_laid r))

-- ---- why it isn't taken

-- there is a column of that name
abbrev pub HasColumn : List (List ℕ) → List ℕ → Type 0
HasColumn names name = IsSome (position (λ n. bytes_eq n name) names)

abbrev pub HasColumns : List (List ℕ) → KeyOf → Type 0
HasColumns names all = Unit {0}
HasColumns names (text one) = HasColumn names one
HasColumns names (pair one two) = HasColumn names one × HasColumn names two

-- there are rows, and a column that would have their keys is missing
abbrev pub LacksKeyColumn : List (List ℕ) → ℕ → KeyOf → Type 0
LacksKeyColumn names count columns = (0 < count) × ¬ (HasColumns names columns)

-- there are rows, and no column
abbrev pub HasNoColumn : ℕ → ℕ → Type 0
HasNoColumn columns count = (columns ≡ 0) × (0 < count)

-- the texts are the names of the columns, the fields of the rows, and why keys have a fault
pub record AreRows (r : LaidRows) : Type 0 where
  pub utf8 : IsUtf8 r.bytes
  pub ends_are : IsCut r.bytes 0 r.ends
  pub columned : ¬ (HasNoColumn r.columns r.count)
  pub all : length r.ends ≡ cells_wanted r.columns r.count + length r.faults

-- says why so many texts aren't those of these columns, rows and faults
pub data CellsFault (columns count faults texts : ℕ) : FlatFault → Type 0 where
  no_column : HasNoColumn columns count → CellsFault columns count faults texts flat.NoColumn
  too_few_texts : ¬ (HasNoColumn columns count) → texts < cells_wanted columns count + faults
      → CellsFault columns count faults texts flat.TooFewTexts
  texts_left : ¬ (HasNoColumn columns count) → cells_wanted columns count + faults < texts
      → CellsFault columns count faults texts flat.TextsLeft

-- says why these are no rows: the first fault that is true of them, or memory ran out
pub data RowsFault (r : LaidRows) : FlatFault → Type 0 where
  of_texts : (e : FlatFault) → TextFault r.bytes r.ends e → RowsFault r e
  of_cells : (e : FlatFault) → IsUtf8 r.bytes → IsCut r.bytes 0 r.ends
      → CellsFault r.columns r.count (length r.faults) (length r.ends) e → RowsFault r e
  no_memory : RowsFault r flat.NoMemory

-- the row of this number, from 1, is the first that has a key that wasn't asked for
abbrev pub IsFirstUnasked : ByOf → List KeyOf → List RowOf → ℕ → Type 0
IsFirstUnasked by keys given number = (place : ℕ) × (number ≡ place + 1)
    × (first_unasked by keys given ≡ Some place)

-- what is laid out is a reply to these keys: faults are those of keys, rows are well formed, and each has a key that was asked for
pub record IsKeyedReply (by : ByOf) (keys : List KeyOf) (r : LaidRows) : Type 0 where
  pub placed : ArePlaces (length keys) r.faults
  pub formed : AreRows r
  pub asked : AreAsked by keys (rows_laid r)

-- says why such a reply isn't taken: the first fault that is true of it. Memory may run out before it is found.
pub data KeyedReplyFault (by : ByOf) (keys : List KeyOf) (r : LaidRows) : KeyedFault → Type 0 where
  bad_faults : ¬ (ArePlaces (length keys) r.faults) → KeyedReplyFault by keys r fault.BadFaults
  of_rows : (e : FlatFault) → ArePlaces (length keys) r.faults → RowsFault r e
      → KeyedReplyFault by keys r (fault.Rows e)
  no_key_column : ArePlaces (length keys) r.faults → AreRows r
      → LacksKeyColumn (sheet_laid r).names r.count by.columns
      → KeyedReplyFault by keys r fault.NoKeyColumn
  not_asked : (number : ℕ) → ArePlaces (length keys) r.faults → AreRows r
      → ¬ (LacksKeyColumn (sheet_laid r).names r.count by.columns)
      → IsFirstUnasked by keys (rows_laid r) number
      → KeyedReplyFault by keys r (fault.NotAsked number)
