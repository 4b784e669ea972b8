-- Definitions of what is made of what a handle holds, and how that went.
use Rattle.std.specs.Prelude.{◌≡◌, Option, Some, None, Result, Ok, Err}
use Rattle.host_clients.specs.declared.client.HostClient.{HostClient}
use Rattle.host_clients.specs.declared.fault.Fault.{Fault}
use Rattle.host_clients.specs.declared.fault.Fault.TheVariants as fault
use Rattle.host_clients.specs.declared.object.Object.{Object}
use Rattle.host_clients.specs.declared.object.Object.TheVariants as object

-- says what is made of the object that a handle holds; an empty handle stays empty, that is refused, and `idle` holds
abbrev pub MakesHeld : {T : Type 0} → (Object → Object → Result T Fault → Type 0) → Type 0
    → Option Object → Option Object → Result T Fault → Type 0
MakesHeld makes idle (Some old) (Some new) done = makes old new done
MakesHeld makes idle (Some old) None done = ⊥
MakesHeld makes idle None new done = (new ≡ None) × (done ≡ Err fault.BadHandle) × idle

-- says the same of an object that is a client; a handle of none holds what it held
abbrev pub MakesClientHeld : {T : Type 0} → (HostClient → HostClient → Result T Fault → Type 0) → Type 0
    → Option Object → Option Object → Result T Fault → Type 0
MakesClientHeld makes idle (Some (object.Client c)) (Some (object.Client d)) done = makes c d done
MakesClientHeld makes idle (Some (object.Client c)) new done = ⊥
MakesClientHeld makes idle held new done = (new ≡ held) × (done ≡ Err fault.BadHandle) × idle

-- It holds the object that was made. Or none was made, for that fault, or memory ran out, and it holds what it held.
abbrev pub Puts : Result Object Fault → Option Object
    → Option Object → Result (Unit {0}) Fault → Type 0
Puts (Ok object) old new (Ok done) = new ≡ Some object
Puts (Err e) old new (Ok done) = ⊥
Puts (Ok object) old new (Err f) = (f ≡ fault.NoMemory) × (new ≡ old)
Puts (Err e) old new (Err f) = (f ≡ e) × (new ≡ old)
