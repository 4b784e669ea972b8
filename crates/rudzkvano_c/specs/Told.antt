-- Definitions of what a call tells, as numbers.
use Rattle.std.specs.Prelude.{◌≡◌, ◌==◌, not, ℕ, Bool, Result, Ok, Err, if◌then◌else◌}
use Rattle.host_clients.specs.declared.opening.FaultPlace.{FaultPlace}
use Rattle.host_clients.specs.declared.fault.Fault.{Fault}
use Rattle.host_clients.specs.declared.fault.Fault.TheVariants as fault
use Rattle.host_clients.specs.declared.keyed.KeyedRefusal.{KeyedRefusal}
use Rattle.host_clients.specs.declared.keyed.KeyedRefusal.TheVariants.{NotAsked, Refused}
use Rattle.fault_sentences.specs.declared.told.FaultAt.{FaultAt}
use Rattle.rudzkvano_c.specs.declared.servers.SchemaFault.{SchemaFault}

abbrev pub number_of : Bool → ℕ
number_of b = if b then 1 else 0

-- it is written, unless the call is refused
abbrev pub IsTold : Result Bool Fault → ℕ → ℕ → Result (Unit {0}) Fault → Type 0
IsTold (Ok b) old new done = (new ≡ number_of b) × (done ≡ Ok tt)
IsTold (Err e) old new done = (new ≡ old) × (done ≡ Err e)

-- the place of a fault, and whether it is in the bindings
abbrev pub fault_told : FaultPlace → SchemaFault
fault_told place = record {
  line = place.line;
  column = place.column;
  number = place.number;
  in_bindings = number_of place.in_bindings;
}

-- the fault that was told
abbrev pub fault_at : SchemaFault → FaultAt
fault_at fault = record {
  number = fault.number;
  line = fault.line;
  column = fault.column;
  in_bindings = not (fault.in_bindings == 0);
}

-- the number of a row that is refused is written, and nothing else
abbrev pub IsRowTold : Result (Unit {0}) KeyedRefusal → ℕ → ℕ
    → Result (Unit {0}) Fault → Type 0
IsRowTold (Ok taken) old new done = (new ≡ old) × (done ≡ Ok tt)
IsRowTold (Err (Refused e)) old new done = (new ≡ old) × (done ≡ Err e)
IsRowTold (Err (NotAsked row)) old new done = (new ≡ row) × (done ≡ Err fault.NotAsked)
