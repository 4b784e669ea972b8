-- Definitions of where the fault is that ends a run, and what is said of that.
use Rattle.std.specs.Prelude.{◌≡◌, ◌≢◌, ◌++◌, ℕ, List, [], Option, Some, None, true, codes, string_bytes, slice_get}
use Rattle.std.specs.Option.{option_map_or}
use Rattle.std.specs.Fmt.{decimal}
use Rattle.gq_schema.specs.declared.fault.SchemaFault.{SchemaFault}
use Rattle.gq_schema.specs.declared.fault.SchemaFault.TheVariants as schema
use Rattle.world.specs.declared.fault.WorldFault.{WorldFault}
use Rattle.world.specs.declared.fault.WorldFault.TheVariants as world
use Rattle.server_lines.specs.declared.fault.ServeFault.{ServeFault}
use Rattle.server_lines.specs.declared.fault.ServeFault.TheVariants as serve
use Rattle.world_files.specs.declared.fault.InputFile.{InputFile}
use Rattle.world_files.specs.declared.fault.InputFile.TheVariants as file
use Rattle.world_files.specs.declared.fault.FileFault.{FileFault}
use Rattle.world_files.specs.declared.fault.FileFault.TheVariants as opening
use Rattle.query_command.specs.declared.run_end.RunEnd.{RunEnd}
use Rattle.query_command.specs.declared.run_end.RunEnd.TheVariants as stop
use Rattle.query_command.specs.declared.command_words.CommandWords.{CommandWords}
use Rattle.query_command.specs.declared.origin.Subject.{Subject}
use Rattle.query_command.specs.declared.origin.Subject.TheVariants as subject
use Rattle.query_command.specs.declared.origin.FaultLocation.{FaultLocation}
use Rattle.query_command.specs.declared.origin.FaultLocation.TheVariants as location
use Rattle.query_command.specs.declared.origin.Origin.{Origin}

abbrev pub in_file : InputFile → FaultLocation → Option Origin
in_file input at = Some (record { subject = subject.Input input; location = at })

-- the place of a schema's fault, and the line of a bindings' one
abbrev pub origin_of_schema : SchemaFault → Option Origin
origin_of_schema (schema.Syntax place) = in_file file.Schema (location.At place)
origin_of_schema (schema.Duplicate place) = in_file file.Schema (location.At place)
origin_of_schema (schema.UnknownType place) = in_file file.Schema (location.At place)
origin_of_schema (schema.BadImplements place) = in_file file.Schema (location.At place)
origin_of_schema schema.NoQueryRoot = in_file file.Schema location.Whole
origin_of_schema (schema.ReservedName place) = in_file file.Schema (location.At place)
origin_of_schema (schema.NotServed place) = in_file file.Schema (location.At place)
origin_of_schema (schema.BadBinding line) = in_file file.Bindings (location.Line line)
origin_of_schema schema.NoMemory = None
origin_of_schema (schema.BadKind place) = in_file file.Schema (location.At place)
origin_of_schema (schema.BadDefault place) = in_file file.Schema (location.At place)

-- a table that is missing, or lacks a column, is named by the bindings
abbrev pub origin_of_world : WorldFault → Option Origin
origin_of_world world.BadLimit = None
origin_of_world (world.Schema fault) = origin_of_schema fault
origin_of_world world.DuplicateTable = None
origin_of_world world.NoSuchTable = in_file file.Bindings location.Whole
origin_of_world world.NoSuchColumn = in_file file.Bindings location.Whole
origin_of_world world.NoMemory = None

abbrev pub origin_of_serve : ServeFault → Option Origin
origin_of_serve serve.LineTooLong = in_file file.Requests location.Whole
origin_of_serve serve.ReadFault = in_file file.Requests location.Whole
origin_of_serve serve.WriteFault =
    Some (record { subject = subject.Output; location = location.Whole })
origin_of_serve serve.NoMemory = None
origin_of_serve serve.BadCount = None
origin_of_serve serve.TraceFault =
    Some (record { subject = subject.Trace; location = location.Whole })

-- gives where a fault is by itself; of a table and of a file the end alone can't tell
abbrev pub origin_of : RunEnd → Option Origin
origin_of stop.Served = None
origin_of (stop.Help text) = None
origin_of (stop.Command text) = None
origin_of (stop.World fault) = origin_of_world fault
origin_of (stop.Table fault) = None
origin_of stop.File = None
origin_of (stop.Serve fault) = origin_of_serve fault

-- the file that couldn't be opened or created, or the place of a fault in what was read
abbrev pub origin_of_opening : FileFault → Option Origin
origin_of_opening (opening.Unread input reason) = in_file input (location.Reason reason)
origin_of_opening (opening.Table place fault (Some reason)) =
    in_file (file.Table place) (location.Reason reason)
origin_of_opening (opening.Table place fault None) = in_file (file.Table place) location.Whole
origin_of_opening (opening.World fault) = origin_of_world fault
origin_of_opening (opening.Uncreated reason) =
    Some (record { subject = subject.Trace; location = location.Reason reason })
origin_of_opening opening.NoMemory = None

-- the path of a file of the words
abbrev pub path_of : CommandWords → InputFile → List ℕ
path_of words file.Schema = string_bytes words.files.schema
path_of words file.Bindings = string_bytes words.files.bindings
path_of words (file.Table place) =
    option_map_or (λ t. string_bytes t.file) (slice_get words.files.tables.items place) []
path_of words file.Requests = string_bytes words.requests

-- the path of the trace's file, empty where nothing is traced
abbrev pub trace_of : CommandWords → List ℕ
trace_of words = option_map_or string_bytes words.trace []

-- the name of what a fault is about
abbrev pub file_of : CommandWords → Subject → List ℕ
file_of words (subject.Input input) = path_of words input
file_of words subject.Output = codes "standard output"
file_of words subject.Trace = trace_of words

-- The file, and where in it: behind colons a line and a column, or behind a colon and a space what the system says. A fault of
-- the bindings in line 0 is in no line.
abbrev pub IsWritten : List ℕ → FaultLocation → List ℕ → Type 0
IsWritten file location.Whole text = text ≡ file
IsWritten file (location.Line line) text = (line ≡ 0 → text ≡ file)
    × (line ≢ 0 → text ≡ file ++ codes ":" ++ decimal line)
IsWritten file (location.At place) text = text
    ≡ file ++ codes ":" ++ decimal place.line ++ codes ":" ++ decimal place.column
IsWritten file (location.Reason error) text = (reason : List ℕ)
    × (text ≡ file ++ codes ": " ++ reason)

-- says what is said of a fault: it was asked for, and it names the file of the words
abbrev pub Explains : CommandWords → Option Origin → List ℕ → Type 0
Explains words None text = ⊥
Explains words (Some origin) text = (words.explain ≡ true)
    × IsWritten (file_of words origin.subject) origin.location text
