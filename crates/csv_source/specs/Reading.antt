-- Definitions of what `Table::read` reads: the records of the text, or the first of its faults.
use Rattle.std.specs.Prelude.{◌≡◌, ◌≤◌, ◌<◌, ℕ, true, List, [], ◌∷◌, ◌++◌, Option, Some, None, Result, Ok, Err, length, get_or, ⊤}
use Rattle.csv.specs.Machine.{next_record}
use Rattle.csv.specs.Reading.{AreRecords, Reached, Ready, default_config, source_of, reader_config, reader_trim, reader_state, is_flexible, has_failed, stops_reader}
use Rattle.csv.specs.Records.{AllText}
use Rattle.csv.specs.declared.error.ErrorKind.{ErrorKind}
use Rattle.csv.specs.declared.error.ErrorKind.TheVariants as kind
use Rattle.csv.specs.declared.parser.State.TheVariants as st
use Rattle.csv.specs.declared.reader.Trim.TheVariants as trim
use Rattle.csv.specs.declared.reader.Reader.{Reader}
use Rattle.load_memory.specs.Rows.{SheetOf}
use Rattle.csv_source.specs.declared.fault.TableFault.{TableFault}
use Rattle.csv_source.specs.declared.fault.TableFault.TheVariants as fault

abbrev pub Record : Type 0
Record = List (List ℕ)

-- a reader that reads records as they stand
pub record IsPlain {R : Type 0} (s : Reader R) : Type 0 where
  pub untrimmed : reader_trim s ≡ trim.None
  pub ready : Ready s
  pub config : reader_config s ≡ default_config
  pub flexible : is_flexible s ≡ true

-- these are the first records of the text, and the reader stands behind them
abbrev pub StandsBehind : {R : Type 0} → (R → Option (List ℕ))
    → Reader R → List ℕ → List Record → Type 0
StandsBehind rem s text records = (y : List ℕ) × (source_of rem s ≡ Some y)
    × Reached default_config st.StartRecord text records (reader_state s) y

-- one record more was read
abbrev pub ReadsMore : {R : Type 0} → (R → Option (List ℕ)) → Reader R → Reader R → Record → Type 0
ReadsMore rem old new fields = (text : List ℕ) (seen : List Record)
    → StandsBehind rem old text seen → StandsBehind rem new text (seen ++ fields ∷ [])

-- there is no record more
abbrev pub HasEnded : {R : Type 0} → (R → Option (List ℕ)) → Reader R → Type 0
HasEnded rem s = (text : List ℕ) (seen : List Record) → StandsBehind rem s text seen
    → AreRecords default_config st.StartRecord text seen

-- a text begins with these records
abbrev pub Begins : List ℕ → List Record → Type 0
Begins text records = (s : _) × (y : List ℕ)
    × Reached default_config st.StartRecord text records s y

-- a name stands twice
pub record Repeats (names : Record) : Type 0 where
  pub first : ℕ
  pub second : ℕ
  pub earlier : first < second
  pub within : second < length names
  pub same : get_or names first [] ≡ get_or names second []

-- records that a table may hold under a header
unfoldable pub Fit : Record → List Record → Type 0
Fit head [] = ⊤
Fit head (r ∷ rs) = (length r ≡ length head) × AllText r × Fit head rs

abbrev pub IsHeader : Record → Type 0
IsHeader head = AllText head × ¬ (Repeats head)

abbrev pub Lawful : List Record → Type 0
Lawful [] = ⊤
Lawful (head ∷ rows) = IsHeader head × Fit head rows × (length rows ≤ 1000000)

-- says why a record is no header
abbrev pub HeaderFault : Record → TableFault → Type 0
HeaderFault head fault.NotText = ¬ (AllText head)
HeaderFault head fault.DuplicateColumn = AllText head × Repeats head
HeaderFault head fault.NoMemory = ⊤
HeaderFault head fault.NoHeader = ⊥
HeaderFault head fault.BadRecord = ⊥
HeaderFault head fault.TooManyRows = ⊥
HeaderFault head fault.NoSuchColumn = ⊥
HeaderFault head fault.ReadFault = ⊥

-- says why a record is no row under a header, however many come before it
abbrev pub RowFault : Record → Record → TableFault → Type 0
RowFault head r fault.BadRecord = ¬ (length r ≡ length head)
RowFault head r fault.NotText = (length r ≡ length head) × ¬ (AllText r)
RowFault head r fault.NoMemory = ⊤
RowFault head r fault.NoHeader = ⊥
RowFault head r fault.DuplicateColumn = ⊥
RowFault head r fault.TooManyRows = ⊥
RowFault head r fault.NoSuchColumn = ⊥
RowFault head r fault.ReadFault = ⊥

-- says why the record that follows lawful ones may not follow them
abbrev pub Faulty : List Record → Record → TableFault → Type 0
Faulty [] head fault.NotText = ¬ (AllText head)
Faulty [] head fault.DuplicateColumn = AllText head × Repeats head
Faulty [] head fault.NoHeader = ⊥
Faulty [] head fault.BadRecord = ⊥
Faulty [] head fault.TooManyRows = ⊥
Faulty [] head fault.NoSuchColumn = ⊥
Faulty [] head fault.ReadFault = ⊥
Faulty [] head fault.NoMemory = ⊥
Faulty (head ∷ rows) r fault.BadRecord = ¬ (length r ≡ length head)
Faulty (head ∷ rows) r fault.NotText = (length r ≡ length head) × ¬ (AllText r)
Faulty (head ∷ rows) r fault.TooManyRows = (length r ≡ length head)
    × AllText r × (length rows ≡ 1000000)
Faulty (head ∷ rows) r fault.NoHeader = ⊥
Faulty (head ∷ rows) r fault.DuplicateColumn = ⊥
Faulty (head ∷ rows) r fault.NoSuchColumn = ⊥
Faulty (head ∷ rows) r fault.ReadFault = ⊥
Faulty (head ∷ rows) r fault.NoMemory = ⊥

pub record FailsAt (text : List ℕ) (e : TableFault) : Type 0 where
  pub before : List Record
  pub last : Record
  pub begins : Begins text (before ++ last ∷ [])
  pub lawful : Lawful before
  pub faulty : Faulty before last e

pub record IsTableOf (text : List ℕ) (t : SheetOf) : Type 0 where
  pub records : AreRecords default_config st.StartRecord text (t.names ∷ t.rows)
  pub lawful : Lawful (t.names ∷ t.rows)

-- the first fault of a text
abbrev pub FirstFault : List ℕ → TableFault → Type 0
FirstFault text fault.NoHeader = next_record default_config st.StartRecord [] [] text ≡ None
FirstFault text fault.NotText = FailsAt text fault.NotText
FirstFault text fault.DuplicateColumn = FailsAt text fault.DuplicateColumn
FirstFault text fault.BadRecord = FailsAt text fault.BadRecord
FirstFault text fault.TooManyRows = FailsAt text fault.TooManyRows
FirstFault text fault.ReadFault = ⊥
FirstFault text fault.NoMemory = ⊥
FirstFault text fault.NoSuchColumn = ⊥

-- a fault of the reader or of memory says nothing of the text
abbrev pub FaultIs : List ℕ → TableFault → Type 0
FaultIs text fault.NoHeader = FirstFault text fault.NoHeader
FaultIs text fault.NotText = FirstFault text fault.NotText
FaultIs text fault.DuplicateColumn = FirstFault text fault.DuplicateColumn
FaultIs text fault.BadRecord = FirstFault text fault.BadRecord
FaultIs text fault.TooManyRows = FirstFault text fault.TooManyRows
FaultIs text fault.ReadFault = ⊤
FaultIs text fault.NoMemory = ⊤
FaultIs text fault.NoSuchColumn = ⊥

abbrev pub ReadIs : List ℕ → Result SheetOf TableFault → Type 0
ReadIs text (Ok t) = IsTableOf text t
ReadIs text (Err e) = FaultIs text e

-- faults that say nothing of the text
abbrev pub IsDevice : TableFault → Type 0
IsDevice fault.ReadFault = ⊤
IsDevice fault.NoMemory = ⊤
IsDevice fault.NoHeader = ⊥
IsDevice fault.NotText = ⊥
IsDevice fault.BadRecord = ⊥
IsDevice fault.TooManyRows = ⊥
IsDevice fault.DuplicateColumn = ⊥
IsDevice fault.NoSuchColumn = ⊥

-- gives what is reported of a failed read of `csv`
abbrev pub reported_fault : ErrorKind → TableFault
reported_fault kind.OutOfMemory = fault.NoMemory
reported_fault (kind.Io e) = fault.ReadFault
reported_fault (kind.UnequalLengths pos expected len) = fault.ReadFault
reported_fault (kind.Utf8 pos err) = fault.ReadFault
reported_fault (kind.Serialize why) = fault.ReadFault
reported_fault (kind.Deserialize pos err) = fault.ReadFault

-- `csv` stopped this reader for the reader underneath or for memory, which the fault tells
pub record IsStopped {R : Type 0} (s : Reader R) (e : TableFault) : Type 0 where
  pub why : ErrorKind
  pub reported : e ≡ reported_fault why
  pub stops : stops_reader why ≡ true
  pub failed : has_failed s ≡ true
