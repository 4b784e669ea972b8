-- Definitions of what is read of one file, and which file gives no world.
use Rattle.std.specs.Prelude.{◌≡◌, ◌<◌, ◌⊎◌, ℕ, List, length, Option, None, IfSome}
use Rattle.csv.specs.Reading.{strip_bom}
use Rattle.csv_source.specs.declared.fault.TableFault.{TableFault}
use Rattle.csv_source.specs.declared.fault.TableFault.TheVariants as table
use Rattle.csv_source.specs.Reading.{IsTableOf, FaultIs}
use Rattle.load_memory.specs.Rows.{SheetOf}
use Rattle.world_files.specs.declared.fault.InputFile.{InputFile}
use Rattle.world_files.specs.declared.fault.InputFile.TheVariants as file
use Rattle.world_files.specs.declared.fault.FileFault.{FileFault}
use Rattle.world_files.specs.declared.fault.FileFault.TheVariants as opening
use Rattle.world_files.specs.declared.files.WorldFiles.{WorldFiles}
use Rattle.world.specs.Sources.{TableOf}
use Rattle.world.specs.Worlds.{IsRefusal}

-- the text is all that a file has, or both are longer than a text may be
abbrev pub IsWholeOrLong : ℕ → List ℕ → List ℕ → Type 0
IsWholeOrLong most bytes text = (text ≡ bytes) ⊎ ((most < length bytes) × (most < length text))

-- the text is all of the bytes, where they are known
abbrev pub IsTextOf : Option (List ℕ) → List ℕ → Type 0
IsTextOf known text = IfSome known (λ bytes. text ≡ bytes)

-- the table is that of all of the bytes, where they are known; a byte order mark is none of it
abbrev pub IsSheetOf : Option (List ℕ) → SheetOf → Type 0
IsSheetOf known sheet = IfSome known (λ bytes. IsTableOf (strip_bom bytes) sheet)

-- the bytes, where they are known, have this fault as a table; of a failed read and of memory this says nothing
abbrev pub IsSheetFault : Option (List ℕ) → TableFault → Type 0
IsSheetFault known fault = IfSome known (λ bytes. FaultIs (strip_bom bytes) fault)

-- gives what a reader that failed has kept
abbrev pub reason_of : {A : Type 0} → TableFault → Option A → Option A
reason_of table.ReadFault kept = kept
reason_of other kept = None

-- this file can't be opened or read, or is no text; of memory this says nothing
abbrev pub IsUnread : InputFile → FileFault → Type 0
IsUnread file (opening.Unread other reason) = other ≡ file
IsUnread file (opening.Table place fault reason) = ⊥
IsUnread file (opening.World fault) = ⊥
IsUnread file (opening.Uncreated reason) = ⊥
IsUnread file opening.NoMemory = Unit {0}

-- the file of the trace can't be created; of memory this says nothing
abbrev pub IsUncreated : FileFault → Type 0
IsUncreated (opening.Unread file reason) = ⊥
IsUncreated (opening.Table place fault reason) = ⊥
IsUncreated (opening.World fault) = ⊥
IsUncreated (opening.Uncreated reason) = Unit {0}
IsUncreated opening.NoMemory = Unit {0}

-- the file of the table of this place can't be opened, or holds none, for its bytes, where they are known, have the fault
abbrev pub IsUnopened : Option (List ℕ) → ℕ → FileFault → Type 0
IsUnopened known place (opening.Table other fault reason) = (other ≡ place)
    × IsSheetFault known fault
IsUnopened known place other = IsUnread (file.Table place) other

-- a table is refused; of memory this says nothing
abbrev pub IsTableRefused : FileFault → Type 0
IsTableRefused (opening.Unread file reason) = ⊥
IsTableRefused (opening.Table place fault reason) = Unit {0}
IsTableRefused (opening.World fault) = ⊥
IsTableRefused (opening.Uncreated reason) = ⊥
IsTableRefused opening.NoMemory = Unit {0}

-- a file that a world is made of
abbrev pub IsFileOf : WorldFiles → InputFile → Type 0
IsFileOf files file.Schema = Unit {0}
IsFileOf files file.Bindings = Unit {0}
IsFileOf files (file.Table place) = place < length files.tables.items
IsFileOf files file.Requests = ⊥

-- the file that can't be read, or the table that is refused, is one of these
abbrev pub IsLocated : WorldFiles → FileFault → Type 0
IsLocated files (opening.Unread file reason) = IsFileOf files file
IsLocated files (opening.Table place fault reason) = place < length files.tables.items
IsLocated files (opening.World fault) = Unit {0}
IsLocated files (opening.Uncreated reason) = ⊥
IsLocated files opening.NoMemory = Unit {0}

-- there is no world with this limit of some texts and tables, for this fault, or they weren't read
abbrev pub IsUnmade : Option ℕ → FileFault → Type 0
IsUnmade max (opening.World fault) = (schema : List ℕ) × (bindings : List ℕ)
    × (tables : List TableOf) × IsRefusal schema bindings tables max fault
IsUnmade max (opening.Uncreated reason) = ⊥
IsUnmade max other = Unit {0}
