-- Keys that a client loads, as a host lays them out, and why they are refused.
use Rattle.std.specs.Prelude.{◌≢◌}
use Rattle.load_rounds.specs.Reading.{KeysOf}
use Rattle.host_clients.specs.Loads.{keys_in}
use Rattle.host_clients.specs.declared.asked_keys.FlatKeys.{FlatKeys}
use Rattle.host_clients.specs.declared.fault.Fault.{Fault}
use Rattle.host_clients.specs.declared.fault.Fault.TheVariants as fault

abbrev pub flat_keys : FlatKeys → KeysOf
flat_keys k = record { loader = k.loader; keys = keys_in k.shapes.now k.ends.now k.bytes.now }

-- it is a fault of the keys, or memory ran out: of the client it says nothing
abbrev pub IsKeyFault : Fault → Type 0
IsKeyFault e = (e ≢ fault.Busy) × (e ≢ fault.NoLoader)
