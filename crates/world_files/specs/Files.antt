-- The world that files hold, and why they hold none.
use Rattle.std.specs.Prelude.{◌≡◌, ℕ, List, IsSomeAnd, string_bytes}
use Rattle.std.specs.List.{AllZip, slice_get}
use Rattle.world.specs.declared.fault.WorldFault.{WorldFault}
use Rattle.world.specs.Sources.{TableOf}
use Rattle.world.specs.Worlds.{WorldOf, IsWorld, IsRefusal}
use Rattle.world_files.specs.declared.fault.FileFault.{FileFault}
use Rattle.world_files.specs.declared.fault.FileFault.TheVariants as opening
use Rattle.world_files.specs.declared.files.TableFile.{TableFile}
use Rattle.world_files.specs.declared.files.WorldFiles.{WorldFiles}
use Rattle.world_files.specs.Folders.{Holdings}
use Rattle.world_files.specs.Opening.{IsTextOf, IsSheetOf, IsSheetFault, IsUnopened, IsFileOf}

-- a table under the name that is given, of all that its file holds
abbrev pub IsTableFrom : Holdings → TableFile → TableOf → Type 0
IsTableFrom holds given table = (table.name ≡ string_bytes given.name)
    × IsSheetOf (holds (string_bytes given.file)) table.sheet

-- The texts and the tables, in their order, are all that these files hold, where that is known.
pub record AreFrom (holds : Holdings) (files : WorldFiles) (schema bindings : List ℕ)
    (tables : List TableOf) : Type 0 where
  pub schema_whole : IsTextOf (holds (string_bytes files.schema)) schema
  pub bindings_whole : IsTextOf (holds (string_bytes files.bindings)) bindings
  pub tables_whole : AllZip (IsTableFrom holds) files.tables.items tables

-- The world, with its limit, that these files hold.
pub record IsWorldFrom (holds : Holdings) (files : WorldFiles) (w : WorldOf) : Type 0 where
  pub schema : List ℕ
  pub bindings : List ℕ
  pub tables : List TableOf
  pub from : AreFrom holds files schema bindings tables
  pub world : IsWorld schema bindings tables files.max_batch w

-- Files whose contents are no world with this limit.
pub record IsRefusedFrom (holds : Holdings) (files : WorldFiles) (fault : WorldFault) : Type 0 where
  pub schema : List ℕ
  pub bindings : List ℕ
  pub tables : List TableOf
  pub from : AreFrom holds files schema bindings tables
  pub refused : IsRefusal schema bindings tables files.max_batch fault

-- the file of one of the tables can't be opened, or holds none
abbrev pub IsUnopenedFrom : Holdings → List TableFile → FileFault → Type 0
IsUnopenedFrom holds tables fault = (place : ℕ) × IsSomeAnd (slice_get tables place)
    (λ given. IsUnopened (holds (string_bytes given.file)) place fault)

-- Reason why these files give no world: one of them can't be read; or a table is refused, of what its file holds; or what they all
-- hold is no world. Of memory this says nothing.
abbrev pub IsUnmadeFrom : Holdings → WorldFiles → FileFault → Type 0
IsUnmadeFrom holds files (opening.Unread file reason) = IsFileOf files file
IsUnmadeFrom holds files (opening.Table place fault reason) =
    IsSomeAnd (slice_get files.tables.items place)
    (λ given. IsSheetFault (holds (string_bytes given.file)) fault)
IsUnmadeFrom holds files (opening.World fault) = IsRefusedFrom holds files fault
IsUnmadeFrom holds files (opening.Uncreated reason) = ⊥
IsUnmadeFrom holds files opening.NoMemory = Unit {0}
