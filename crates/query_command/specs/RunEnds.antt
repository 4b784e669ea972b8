-- Definitions of what is said of the ways in which a run ends.
use Rattle.std.specs.Prelude.{ℕ, List, [], codes, string_bytes}
use Rattle.gq_schema.specs.declared.fault.SchemaFault.TheVariants as schema
use Rattle.world.specs.declared.fault.WorldFault.{WorldFault}
use Rattle.world.specs.declared.fault.WorldFault.TheVariants as world
use Rattle.world.specs.Faults as worlds
use Rattle.csv_source.specs.declared.fault.TableFault.{TableFault}
use Rattle.csv_source.specs.declared.fault.TableFault.TheVariants as table
use Rattle.server_lines.specs.declared.fault.ServeFault.{ServeFault}
use Rattle.server_lines.specs.declared.fault.ServeFault.TheVariants as serve
use Rattle.server_lines.specs.Faults as serving
use Rattle.world_files.specs.declared.fault.FileFault.{FileFault}
use Rattle.world_files.specs.declared.fault.FileFault.TheVariants as opening
use Rattle.query_command.specs.declared.run_end.RunEnd.{RunEnd}
use Rattle.query_command.specs.declared.run_end.RunEnd.TheVariants as stop

abbrev pub status_of_world : WorldFault → ℕ
status_of_world world.BadLimit = 2
status_of_world (world.Schema schema.NoMemory) = 5
status_of_world (world.Schema fault) = 3
status_of_world world.DuplicateTable = 3
status_of_world world.NoSuchTable = 3
status_of_world world.NoSuchColumn = 3
status_of_world world.NoMemory = 5

abbrev pub status_of_table : TableFault → ℕ
status_of_table table.NoHeader = 3
status_of_table table.DuplicateColumn = 3
status_of_table table.NotText = 3
status_of_table table.BadRecord = 3
status_of_table table.TooManyRows = 3
status_of_table table.NoSuchColumn = 3
status_of_table table.ReadFault = 4
status_of_table table.NoMemory = 5

abbrev pub status_of_serve : ServeFault → ℕ
status_of_serve serve.BadCount = 2
status_of_serve serve.LineTooLong = 4
status_of_serve serve.ReadFault = 4
status_of_serve serve.WriteFault = 4
status_of_serve serve.NoMemory = 5
status_of_serve serve.TraceFault = 4

-- the exit status
abbrev pub status_of : RunEnd → ℕ
status_of stop.Served = 0
status_of (stop.Help text) = 0
status_of (stop.Command text) = 2
status_of (stop.World fault) = status_of_world fault
status_of (stop.Table fault) = status_of_table fault
status_of stop.File = 4
status_of (stop.Serve fault) = status_of_serve fault

-- the code and the name of a table's fault; a reader that fails is like any other file, and want of memory is one fault
abbrev pub line_of_table : TableFault → List ℕ
line_of_table table.NoHeader = codes "C1 NoHeader"
line_of_table table.DuplicateColumn = codes "C2 DuplicateColumn"
line_of_table table.NotText = codes "C3 NotText"
line_of_table table.BadRecord = codes "C4 BadRecord"
line_of_table table.TooManyRows = codes "C5 TooManyRows"
line_of_table table.NoSuchColumn = codes "C6 NoSuchColumn"
line_of_table table.ReadFault = codes "X2 ReadFault"
line_of_table table.NoMemory = codes "X4 NoMemory"

-- gives what standard error gets
abbrev pub line_of : RunEnd → List ℕ
line_of stop.Served = []
line_of (stop.Help text) = []
line_of (stop.Command text) = string_bytes text
line_of (stop.World fault) = worlds.code_and_name fault
line_of (stop.Table fault) = line_of_table fault
line_of stop.File = codes "X2 ReadFault"
line_of (stop.Serve fault) = serving.code_and_name fault

-- gives how a run ends where files can't be opened or created
abbrev pub stop_of : FileFault → RunEnd
stop_of (opening.Unread file reason) = stop.File
stop_of (opening.Table place fault reason) = stop.Table fault
stop_of (opening.World fault) = stop.World fault
stop_of (opening.Uncreated reason) = stop.Serve serve.TraceFault
stop_of opening.NoMemory = stop.Serve serve.NoMemory
