-- Definitions of what is made of objects.
use Rattle.std.specs.Prelude.{◌≡◌, ℕ, List, Result, Ok, Err}
use Rattle.host_clients.specs.Opening.{AreLimitsFor, ClientFault, IsNewClient}
use Rattle.host_clients.specs.declared.fault.Fault.{Fault}
use Rattle.host_clients.specs.declared.fault.Fault.TheVariants as fault
use Rattle.host_clients.specs.declared.object.Object.{Object}
use Rattle.host_clients.specs.declared.object.Object.TheVariants.{Server, Client, Queries}

-- shares a server once more; an object that is no server isn't shared
abbrev pub Shares : Object → Result Object Fault → Type 0
Shares (Server s) (Ok object) = object ≡ Server s
Shares (Server s) (Err e) = e ≡ fault.NoMemory
Shares (Client c) (Ok object) = ⊥
Shares (Client c) (Err e) = e ≡ fault.BadHandle
Shares (Queries s) (Ok object) = ⊥
Shares (Queries s) (Err e) = e ≡ fault.BadHandle

-- what requests ask of the server, of which nothing is kept yet; what is no server has none
abbrev pub MakesQueries : Object → Result Object Fault → Type 0
MakesQueries (Server s) (Ok object) = object ≡ Queries s
MakesQueries (Server s) (Err e) = e ≡ fault.NoMemory
MakesQueries (Client c) (Ok object) = ⊥
MakesQueries (Client c) (Err e) = e ≡ fault.BadHandle
MakesQueries (Queries s) (Ok object) = ⊥
MakesQueries (Queries s) (Err e) = e ≡ fault.BadHandle

-- a client of the server, which knows nothing; what is no server has none
abbrev pub MakesClient : List ℕ → Object → Result Object Fault → Type 0
MakesClient limits (Server s) (Ok (Server t)) = ⊥
MakesClient limits (Server s) (Ok (Queries t)) = ⊥
MakesClient limits (Server s) (Ok (Client c)) = AreLimitsFor s limits × IsNewClient s limits c
MakesClient limits (Server s) (Err e) = ClientFault s limits e
MakesClient limits (Client c) (Ok object) = ⊥
MakesClient limits (Client c) (Err e) = e ≡ fault.BadHandle
MakesClient limits (Queries s) (Ok object) = ⊥
MakesClient limits (Queries s) (Err e) = e ≡ fault.BadHandle
