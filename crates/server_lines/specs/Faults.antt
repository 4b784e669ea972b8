-- Definitions of how faults are named for a user.
use Rattle.std.specs.Prelude.{ℕ, List, codes}
use Rattle.server_lines.specs.declared.fault.ServeFault.{ServeFault}
use Rattle.server_lines.specs.declared.fault.ServeFault.TheVariants.{LineTooLong, ReadFault, WriteFault, NoMemory, BadCount, TraceFault}

-- the code and the name of a fault
abbrev pub code_and_name : ServeFault → List ℕ
code_and_name LineTooLong = codes "X1 LineTooLong"
code_and_name ReadFault = codes "X2 ReadFault"
code_and_name WriteFault = codes "X3 WriteFault"
code_and_name NoMemory = codes "X4 NoMemory"
code_and_name BadCount = codes "X5 BadCount"
code_and_name TraceFault = codes "X8 TraceFault"
