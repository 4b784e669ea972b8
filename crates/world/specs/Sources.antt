-- The sources of loaders over tables.
use Rattle.std.specs.Prelude.{◌≡◌, ℕ, Bool, true, false, ◌&&◌, List, [], ◌∷◌, Option, Some, None, Result, Ok, Err, String, string_bytes, bytes_eq, map, find, option_map, if◌then◌else◌}
use Rattle.std.specs.List.{list_any}
use Rattle.std.specs.Global.{Global}
use Rattle.bindings_syntax.specs.Statements.{ByOf}
use Rattle.gq_bindings.specs.Tree.{LoaderOf}
use Rattle.load_memory.specs.Rows.{SheetOf}
use Rattle.load_memory.specs.declared.key.KeyMode.{KeyMode}
use Rattle.load_memory.specs.declared.key.KeyMode.TheVariants.{Exact, FoldAscii}
use Rattle.csv_source.specs.Reading.{Repeats}
use Rattle.csv_source.specs.Tables.{SourceOf, rows_of, source_of_all, source_by, source_by_two}
use Rattle.world.specs.declared.fault.WorldFault.{WorldFault}
use Rattle.world.specs.declared.fault.WorldFault.TheVariants.{BadLimit, Schema, DuplicateTable, NoSuchTable, NoSuchColumn, NoMemory}

-- a table that is given, by its name
pub record TableOf : Type 0 where
  pub name : List ℕ
  pub sheet : SheetOf

abbrev pub table_of : (String Global × SheetOf) → TableOf
table_of t = record { name = string_bytes t.0; sheet = t.1 }

abbrev pub names_of : List TableOf → List (List ℕ)
names_of tables = map (λ (t : TableOf). t.name) tables

-- says why tables cannot be found by their names; of memory this says nothing
abbrev pub IsRefusedTables : List TableOf → WorldFault → Type 0
IsRefusedTables tables BadLimit = ⊥
IsRefusedTables tables (Schema fault) = ⊥
IsRefusedTables tables DuplicateTable = Repeats (names_of tables)
IsRefusedTables tables NoSuchTable = ⊥
IsRefusedTables tables NoSuchColumn = ⊥
IsRefusedTables tables NoMemory = Unit {0}

abbrev pub is_table : List ℕ → TableOf → Bool
is_table q t = bytes_eq q t.name

-- the first table of this name
abbrev pub sheet_named : List TableOf → List ℕ → Option SheetOf
sheet_named tables q = option_map (λ (t : TableOf). t.sheet) (find (is_table q) tables)

-- with `fold`, keys are compared with `A` to `Z` made small
abbrev pub mode_of : Bool → KeyMode
mode_of true = FoldAscii
mode_of false = Exact

abbrev pub has_column : SheetOf → List ℕ → Bool
has_column sheet column = list_any (bytes_eq column) sheet.names

-- the source by one column or by two, which have to be there
abbrev pub source_by_columns : SheetOf → List ℕ
    → Option (List ℕ) → KeyMode → Result SourceOf WorldFault
source_by_columns sheet column None mode =
    if has_column sheet column then Ok (source_by (rows_of sheet) column mode) else Err NoSuchColumn
source_by_columns sheet column (Some second) mode =
    if has_column sheet column && has_column sheet second
    then Ok (source_by_two (rows_of sheet) column second mode) else Err NoSuchColumn

-- the source of a loader over its table: of all rows, or by its columns
abbrev pub source_over : SheetOf → Option ByOf → Result SourceOf WorldFault
source_over sheet None = Ok (source_of_all (rows_of sheet))
source_over sheet (Some by) = source_by_columns sheet by.column by.second (mode_of by.fold)

abbrev pub source_over_found : Option SheetOf → Option ByOf → Result SourceOf WorldFault
source_over_found None by = Err NoSuchTable
source_over_found (Some sheet) by = source_over sheet by

-- the source of a loader, where tables are found by their names
abbrev pub source_for : (List ℕ → Option SheetOf) → LoaderOf → Result SourceOf WorldFault
source_for sheets loader = source_over_found (sheets loader.table) loader.by

abbrev pub before : {A : Type 0} → A → Result (List A) WorldFault → Result (List A) WorldFault
before s (Ok ss) = Ok (s ∷ ss)
before s (Err e) = Err e

abbrev pub with_rest : {A : Type 0} → Result A WorldFault
    → Result (List A) WorldFault → Result (List A) WorldFault
with_rest (Err e) rest = Err e
with_rest (Ok s) rest = before s rest

-- the sources of loaders, or the refusal of the first that has none
abbrev pub sources_for : (List ℕ → Option SheetOf)
    → List LoaderOf → Result (List SourceOf) WorldFault
sources_for sheets [] = Ok []
sources_for sheets (l ∷ ls) = with_rest (source_for sheets l) (sources_for sheets ls)

-- the refusal that is reported where sources are wanted; of memory this says nothing
abbrev pub IsRefused : {A : Type 0} → Result A WorldFault → WorldFault → Type 0
IsRefused want BadLimit = ⊥
IsRefused want (Schema fault) = ⊥
IsRefused want DuplicateTable = ⊥
IsRefused want NoSuchTable = want ≡ Err NoSuchTable
IsRefused want NoSuchColumn = want ≡ Err NoSuchColumn
IsRefused want NoMemory = Unit {0}
