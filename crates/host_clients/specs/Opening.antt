-- Definitions of why a schema or its bindings are refused, as C is told, and the loaders of a new client.
use Rattle.std.specs.Prelude.{ℕ, ◌≡◌, ◌≢◌, ◌≤◌, ◌⊎◌, List, All, length, [], ◌∷◌, true, false, Option, Some, None, if◌then◌else◌, ◌==◌, IsUtf8}
use Rattle.text_place.specs.declared.place.Place.{Place}
use Rattle.gq_schema.specs.declared.fault.SchemaFault.{SchemaFault}
use Rattle.gq_schema.specs.declared.fault.SchemaFault.TheVariants as schema
use Rattle.load_queue.specs.Loaders.{LoaderOf}
use Rattle.load_rounds.specs.Limits.{no_limits}
use Rattle.gq_bindings.specs.Tree as bindings
use Rattle.plan_requests.specs.Servers.{ServerOf, IsServerFault}
use Rattle.server.specs.Opening.{new_loader}
use Rattle.rounds_by_hand.specs.declared.handed_in.HandedIn.{HandedIn}
use Rattle.host_clients.specs.declared.client.HostClient.{HostClient}
use Rattle.host_clients.specs.declared.client.HostClient.TheVariants.{Idle}
use Rattle.host_clients.specs.declared.fault.Fault.{Fault}
use Rattle.host_clients.specs.declared.fault.Fault.TheVariants as fault
use Rattle.host_clients.specs.declared.opening.OpenFault.{OpenFault}
use Rattle.host_clients.specs.declared.opening.OpenFault.TheVariants.{NotUtf8, Refused, NoMemory}
use Rattle.host_clients.specs.declared.opening.FaultPlace.{FaultPlace}

abbrev pub fault_at : ℕ → Place → FaultPlace
fault_at number at =
    record { number = number; line = at.line; column = at.column; in_bindings = false }

abbrev pub fault_without : ℕ → FaultPlace
fault_without number = record { number = number; line = 0; column = 0; in_bindings = false }

-- the fault Sn has the number n
abbrev pub place_of : SchemaFault → FaultPlace
place_of (schema.Syntax at) = fault_at 1 at
place_of (schema.Duplicate at) = fault_at 2 at
place_of (schema.UnknownType at) = fault_at 3 at
place_of (schema.BadImplements at) = fault_at 4 at
place_of schema.NoQueryRoot = fault_without 5
place_of (schema.ReservedName at) = fault_at 6 at
place_of (schema.NotServed at) = fault_at 7 at
place_of (schema.BadBinding line) =
    record { number = 8; line = line; column = 0; in_bindings = true }
place_of schema.NoMemory = fault_without 9
place_of (schema.BadKind at) = fault_at 10 at
place_of (schema.BadDefault at) = fault_at 11 at

-- 0 is no limit
abbrev pub limit_of : ℕ → Option ℕ
limit_of n = if n == 0 then None else Some n

-- the limit of the loader of a number, where no limits are given or one for each loader
abbrev pub limit_at : List ℕ → Option ℕ
limit_at [] = None
limit_at (n ∷ ns) = limit_of n

abbrev pub limits_after : List ℕ → List ℕ
limits_after [] = []
limits_after (n ∷ ns) = ns

-- new loaders of these lines, in order, each with its limit
abbrev pub AreNewLoaders : {S : Type 0} → S → List ℕ
    → List bindings.LoaderOf → List (LoaderOf S) → Type 0
AreNewLoaders source limits [] [] = Unit {0}
AreNewLoaders source limits [] (l ∷ ls) = ⊥
AreNewLoaders source limits (line ∷ lines) [] = ⊥
AreNewLoaders source limits (line ∷ lines) (l ∷ ls) =
    (l ≡ new_loader l.identity (limit_at limits) line source)
    × AreNewLoaders source (limits_after limits) lines ls

-- the source of every loader, which is never asked
abbrev pub handed_in : HandedIn
handed_in = record {}

-- a client of this server, which knows nothing, and whose answers have no limits: it has a new loader for each of the server's lines, and no
-- round was made
abbrev pub IsNewClient : ServerOf → List ℕ → HostClient → Type 0
IsNewClient server limits (Idle c) = (c.server ≡ server)
    × (c.most ≡ None) × (c.limits ≡ no_limits) × (c.session.pairs ≡ []) × (c.session.rounds ≡ 0)
    × AreNewLoaders handed_in limits server.bindings.loaders c.session.loaders
IsNewClient server limits other = ⊥

-- there is no limit, or one for each of the server's loaders
abbrev pub AreLimitsFor : ServerOf → List ℕ → Type 0
AreLimitsFor server limits = (limits ≡ []) ⊎ (length limits ≡ length server.bindings.loaders)

-- why no loaders are made: a limit is over 65,535, or memory ran out
abbrev pub LimitsFault : List ℕ → Fault → Type 0
LimitsFault limits fault.BadLimit = ¬ (All (λ n. n ≤ 65535) limits)
LimitsFault limits fault.NoMemory = Unit {0}
LimitsFault limits e = ⊥

-- why no client is made: another number of limits, or one over 65,535
abbrev pub ClientFault : ServerOf → List ℕ → Fault → Type 0
ClientFault server limits fault.BadSize = ¬ (AreLimitsFor server limits)
ClientFault server limits fault.BadLimit =
    AreLimitsFor server limits × ¬ (All (λ n. n ≤ 65535) limits)
ClientFault server limits fault.NoMemory = AreLimitsFor server limits
ClientFault server limits e = ⊥

-- says why no server is made of these texts. Of memory this says nothing.
abbrev pub RefusesOpening : List ℕ → List ℕ → OpenFault → Type 0
RefusesOpening text bindings NotUtf8 = ¬ (IsUtf8 text × IsUtf8 bindings)
RefusesOpening text bindings (Refused place) = (found : SchemaFault) × (found ≢ schema.NoMemory)
    × IsServerFault text bindings found × (place ≡ place_of found)
RefusesOpening text bindings NoMemory = Unit {0}
