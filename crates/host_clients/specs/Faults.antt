-- The numbers by which C knows why a call is refused.
use Rattle.std.specs.Prelude.{ℤ, negsuc}
use Rattle.flat_rows.specs.declared.fault.FlatFault.{FlatFault}
use Rattle.flat_rows.specs.declared.fault.FlatFault.TheVariants as flat
use Rattle.rounds_by_hand.specs.declared.fault.TakeFault.{TakeFault}
use Rattle.rounds_by_hand.specs.declared.fault.TakeFault.TheVariants as take
use Rattle.load_rounds.specs.declared.fault.SessionFault.{SessionFault}
use Rattle.load_rounds.specs.declared.fault.SessionFault.TheVariants as session
use Rattle.load_queue.specs.declared.loader.QueueFault.{QueueFault}
use Rattle.load_queue.specs.declared.loader.QueueFault.TheVariants as queue
use Rattle.host_clients.specs.declared.fault.Fault.{Fault}
use Rattle.host_clients.specs.declared.fault.Fault.TheVariants as fault

-- negsuc n is -(n + 1)
abbrev pub code_of : Fault → ℤ
code_of fault.NoMemory = negsuc 0
code_of fault.BadHandle = negsuc 1
code_of fault.NotUtf8 = negsuc 2
code_of fault.BadSchema = negsuc 3
code_of fault.BadSize = negsuc 4
code_of fault.BadLimit = negsuc 5
code_of fault.Busy = negsuc 6
code_of fault.Idle = negsuc 7
code_of fault.Stopped = negsuc 8
code_of fault.NoOrder = negsuc 9
code_of fault.Replied = negsuc 10
code_of fault.NoLoader = negsuc 11
code_of fault.BadKey = negsuc 12
code_of fault.BadEnds = negsuc 13
code_of fault.BadCount = negsuc 14
code_of fault.TooFewTexts = negsuc 15
code_of fault.TextsLeft = negsuc 16
code_of fault.NoColumn = negsuc 17
code_of fault.TooManyRows = negsuc 18
code_of fault.NoKeyColumn = negsuc 19
code_of fault.NotAsked = negsuc 20
code_of fault.BadFaults = negsuc 21
code_of fault.OtherServer = negsuc 22

-- the faults of the libraries below, as those of a call

abbrev pub flat_fault : FlatFault → Fault
flat_fault flat.NotUtf8 = fault.NotUtf8
flat_fault flat.BadEnds = fault.BadEnds
flat_fault flat.TooFewTexts = fault.TooFewTexts
flat_fault flat.TextsLeft = fault.TextsLeft
flat_fault flat.NoColumn = fault.NoColumn
flat_fault flat.TooManyRows = fault.TooManyRows
flat_fault flat.NoMemory = fault.NoMemory

abbrev pub take_fault : TakeFault → Fault
take_fault take.NoSuchOrder = fault.NoOrder
take_fault take.Replied = fault.Replied
take_fault take.NoMemory = fault.NoMemory

abbrev pub session_fault : SessionFault → Fault
session_fault session.NoSuchLoader = fault.NoLoader
session_fault session.NoMemory = fault.NoMemory

abbrev pub queue_fault : QueueFault → Fault
queue_fault queue.BadLimit = fault.BadLimit
queue_fault queue.NoMemory = fault.NoMemory
