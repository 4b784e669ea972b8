-- Definitions of what handles hold, and what calls make of them.
use Rattle.std.specs.Prelude.{◌≡◌, ◌≢◌, ℤ, ℕ, List, [], ◌∷◌, Bool, true, Option, Some, None, Result, Ok, Err, OnOk, OnErr, IfErr, IsUtf8, length}
use Rattle.load_memory.specs.Outcomes.{OutcomeOf}
use Rattle.load_queue.specs.Orders.{OrderOf}
use Rattle.plan_requests.specs.Servers.{ServerOf, IsServer}
use Rattle.server.specs.Clients.{ClientOf}
use Rattle.rounds_by_hand.specs.declared.handed_in.HandedIn.{HandedIn}
use Rattle.host_clients.specs.Asked.{HostAsked}
use Rattle.host_clients.specs.Clients.{Advances, HasCount, IsBegun, IsBegunLoad, KeepsOrStops, TakesFailure, TakesReply, client_in, is_busy, width_in}
use Rattle.flat_rows.specs.Keyed.{LaidRows}
use Rattle.host_clients.specs.Keyed.{KeyedRowsFault, TakesKeyed}
use Rattle.host_clients.specs.Known.{KeepsOrForgets, OnClient, PrimesSaid, Clears}
use Rattle.host_clients.specs.Laid.{AreKeyTexts, AreKeys, LaidKeys, LaidReply, TextsOf, items_at, key_at, keys_at, reply_at, texts_at}
use Rattle.host_clients.specs.Loads.{AreOutcomesOf, load_orders}
use Rattle.host_clients.specs.Opening.{RefusesOpening}
use Rattle.host_clients.specs.Refused.{AskFault, ClearFault, FailureFault, LoadFault, PrimeFault, RowsFault}
use Rattle.host_clients.specs.UnderWay.{IsAnswerOf, orders_out}
use Rattle.host_clients.specs.declared.client.HostClient.{HostClient}
use Rattle.host_clients.specs.declared.client.HostClient.TheVariants.{Asked, Answered, Loading, Loaded}
use Rattle.rounds_by_hand.specs.declared.progress.Progress.{Progress}
use Rattle.host_clients.specs.declared.fault.Fault.{Fault}
use Rattle.host_clients.specs.declared.fault.Fault.TheVariants as fault
use Rattle.host_clients.specs.declared.keyed.KeyedRefusal.{KeyedRefusal}
use Rattle.host_clients.specs.declared.keyed.KeyedRefusal.TheVariants as keyed
use Rattle.host_clients.specs.declared.object.Object.{Object}
use Rattle.host_clients.specs.declared.object.Object.TheVariants as object
use Rattle.host_clients.specs.declared.opening.FaultPlace.{FaultPlace}
use Rattle.host_clients.specs.declared.opening.OpenFault.TheVariants.{NotUtf8, Refused}
use Rattle.rudzkvano_c.specs.Codes.{code_in, progress_in}
use Rattle.rudzkvano_c.specs.Made.{MakesClientHeld, Puts}
use Rattle.rudzkvano_c.specs.Told.{IsRowTold, fault_told, number_of}
use Rattle.rudzkvano_c.specs.declared.servers.SchemaFault.{SchemaFault}

-- says how a call went, by its code
abbrev pub WentAs : ℤ → (Result (Unit {0}) Fault → Type 0) → Type 0
WentAs code went = (done : Result (Unit {0}) Fault) × (code ≡ code_in done) × went done

-- says what a call makes of the client that a handle holds, and how it went; another object stays as it is, and the call is refused
abbrev pub Makes : (HostClient → HostClient → Result (Unit {0}) Fault → Type 0)
    → Option Object → Option Object → ℤ → Type 0
Makes makes old new code = WentAs code (MakesClientHeld makes (Unit {0}) old new)

-- says what is made of the object that a handle holds; of none nothing is made
abbrev pub IsMadeOf : {T : Type 0} → (Object → Result T Fault → Type 0)
    → Option Object → Result T Fault → Type 0
IsMadeOf makes (Some object) made = makes object made
IsMadeOf makes None made = made ≡ Err fault.BadHandle

-- a call makes an object of what a handle holds and puts it into another, and its code says how that went
abbrev pub Gives : (Object → Result Object Fault → Type 0)
    → Option Object → Option Object → Option Object → ℤ → Type 0
Gives makes held old new code = (made : Result Object Fault)
    × IsMadeOf makes held made × WentAs code (Puts made old new)

-- A server is made of these texts. Or none is: a text isn't UTF-8; or the schema or its bindings are refused, for the fault that is told,
-- with its place; or memory ran out. Nothing else is told.
abbrev pub OpensAs : List ℕ → List ℕ → SchemaFault → SchemaFault → Result Object Fault → Type 0
OpensAs text bindings was told (Ok (object.Server s)) = (told ≡ was) × IsServer text bindings s
OpensAs text bindings was told (Ok o) = ⊥
OpensAs text bindings was told (Err fault.NotUtf8) = (told ≡ was)
    × RefusesOpening text bindings NotUtf8
OpensAs text bindings was told (Err fault.BadSchema) = (place : FaultPlace)
    × (told ≡ fault_told place) × RefusesOpening text bindings (Refused place)
OpensAs text bindings was told (Err fault.NoMemory) = told ≡ was
OpensAs text bindings was told (Err e) = ⊥

-- a server of these texts is put into a handle, or it holds what it held, and why is told
abbrev pub Opens : List ℕ → List ℕ → SchemaFault → SchemaFault
    → Option Object → Option Object → ℤ → Type 0
Opens text bindings was told old new code = (made : Result Object Fault)
    × OpensAs text bindings was told made × WentAs code (Puts made old new)

-- ---- what is asked of a client

-- it is begun, planned by that server; or it is refused for that fault, and nothing has changed
abbrev pub BeginsWith : ServerOf → HostAsked
    → HostClient → HostClient → Result (Unit {0}) Fault → Type 0
BeginsWith server asked old new (Ok done) = IsBegun server old asked new
BeginsWith server asked old new (Err e) = (new ≡ old) × AskFault server old e

-- says the same of the server of the queries that are held; where none are, the client stays as it is, and the call is refused
abbrev pub BeginsBy : Option Object → HostAsked
    → HostClient → HostClient → Result (Unit {0}) Fault → Type 0
BeginsBy (Some (object.Queries s)) asked old new done = BeginsWith s asked old new done
BeginsBy held asked old new done = (new ≡ old) × (done ≡ Err fault.BadHandle)

-- these keys of a loader, as a host lays them out
abbrev pub keys_of_loader : ℕ → List ℕ → List ℕ → List ℕ → LaidKeys
keys_of_loader loader texts ends bytes =
    record { loader = loader; shapes = texts; texts = texts_at ends bytes }

-- it is begun to load keys, which are well formed, and as wide as the loader's keys; or it is refused for that fault, and nothing has changed
abbrev pub BeginsLoad : LaidKeys → HostClient → HostClient → Result (Unit {0}) Fault → Type 0
BeginsLoad keys old new (Ok done) = AreKeys (width_in old keys.loader) keys
    × IsBegunLoad (keys_at keys) old new
BeginsLoad keys old new (Err e) = (new ≡ old) × LoadFault keys old e

-- says what `rz_next` makes of a handle: of the client that it holds what a call to go on makes of it, by the code
abbrev pub AdvancesHeld : Option Object → Option Object → ℤ → Type 0
AdvancesHeld old new code = (progress : Result (Progress (Unit {0})) Fault)
    × (code ≡ progress_in progress) × MakesClientHeld Advances (Unit {0}) old new progress

-- a refused reply changes nothing; or memory ran out, and nothing has changed, or what is under way stops at that order
abbrev pub KeepsIfRefused : ℕ → HostClient → HostClient → Fault → Type 0
KeepsIfRefused order old new e = (e ≢ fault.NoMemory → new ≡ old)
    × (e ≡ fault.NoMemory → KeepsOrStops order old new)

-- the items of a reply are taken for an order, which has a key for each number of rows; or it is refused for that fault
abbrev pub TakesRows : ℕ → LaidReply → HostClient → HostClient → Result (Unit {0}) Fault → Type 0
TakesRows order reply old new done =
    OnOk done (HasCount order (length reply.rows) old × TakesReply order (items_at reply) old new)
    × IfErr done (KeepsIfRefused order old new) × IfErr done (RowsFault order reply old)

-- a batch is taken to have failed, with that text; or it is refused for that fault
abbrev pub TakesFailed : ℕ → List ℕ → HostClient → HostClient → Result (Unit {0}) Fault → Type 0
TakesFailed order text old new done = OnOk done (IsUtf8 text × TakesFailure order text old new)
    × IfErr done (KeepsIfRefused order old new) × IfErr done (FailureFault order text old)

abbrev pub rows_at : ℕ → ℕ → List ℕ → List ℕ → List ℕ → LaidRows
rows_at columns count faults ends bytes =
    record { columns = columns; count = count; faults = faults; ends = ends; bytes = bytes }

abbrev pub KeepsByKey : ℕ → HostClient → HostClient → KeyedRefusal → Type 0
KeepsByKey order old new refusal = (refusal ≢ keyed.Refused fault.NoMemory → new ≡ old)
    × (refusal ≡ keyed.Refused fault.NoMemory → KeepsOrStops order old new)

-- Rows in any order are taken for an order, with faults of its keys, or they are refused for that fault. For a row whose key wasn't asked
-- for its number is told, and else nothing.
abbrev pub TakesRowsByKey : ℕ → LaidRows → ℕ → ℕ
    → HostClient → HostClient → Result (Unit {0}) Fault → Type 0
TakesRowsByKey order r was told old new done = (taken : Result (Unit {0}) KeyedRefusal)
    × IsRowTold taken was told done × OnOk taken (TakesKeyed order r old new)
    × IfErr taken (KeepsByKey order old new) × IfErr taken (KeyedRowsFault order r old)

-- ---- what a client knows

-- what is on its way stays as it is
abbrev pub StaysUnderWay : HostClient → HostClient → Type 0
StaysUnderWay old new = is_busy old ≡ true → new ≡ old

-- this is made of the client, or it is refused for that fault, and nothing has changed; but where memory ran out, an answer or outcomes may be
-- let go, and the client is else as it was. What is under way stays as it is.
abbrev pub Becomes : (ClientOf HandedIn → ClientOf HandedIn → Type 0) → (HostClient → Fault → Type 0)
    → HostClient → HostClient → Result (Unit {0}) Fault → Type 0
Becomes becomes refuses old new done = OnOk done (OnClient becomes old new)
    × OnErr done (client_in new ≡ client_in old) × IfErr done (λ e. e ≢ fault.NoMemory → new ≡ old)
    × IfErr done (refuses old) × StaysUnderWay old new

-- a refused call changes nothing, but that failed batches may be forgotten, and an answer or outcomes let go, where memory ran out
abbrev pub KeepsClient : HostClient → HostClient → Fault → Type 0
KeepsClient old new e = (e ≢ fault.NoMemory → new ≡ old)
    × (e ≡ fault.NoMemory → KeepsOrForgets old new)

-- says the same of a call with the texts of a loader's key that takes memory, and what it tells of it is written as a number
abbrev pub Tells : ℕ → TextsOf → (Bool → ClientOf HandedIn → ClientOf HandedIn → Type 0)
    → (HostClient → Fault → Type 0) → ℕ
    → HostClient → HostClient → Result (Unit {0}) Fault → Type 0
Tells loader key becomes refuses told old new done =
    OnOk done (OnClient (λ c d. (b : Bool) × (told ≡ number_of b) × becomes b c d) old new)
    × OnOk done (AreKeyTexts (width_in old loader) key) × IfErr done (KeepsClient old new)
    × IfErr done (refuses old) × StaysUnderWay old new

-- an item is added for a key, and whether it was added is told
abbrev pub Primes : ℕ → TextsOf → LaidReply → ℕ
    → HostClient → HostClient → Result (Unit {0}) Fault → Type 0
Primes loader key reply told = Tells loader key (PrimesSaid loader (key_at key) (items_at reply))
    (PrimeFault loader key reply) told

-- the reply of one key
abbrev pub one_in : ℕ → ℕ → List ℕ → List ℕ → LaidReply
one_in columns rows ends bytes = reply_at columns (rows ∷ []) ends bytes

-- a key is forgotten, and whether something was known of it is told
abbrev pub TellsCleared : ℕ → TextsOf → ℕ
    → HostClient → HostClient → Result (Unit {0}) Fault → Type 0
TellsCleared loader key told = Tells loader key (Clears loader (key_at key)) (ClearFault loader key) told

-- ---- what is copied

-- The text is that of the answer, which is the answer of what was asked: in a session of a client of the server that planned it, within the
-- client's limits on work and rounds, whose loaders were asked exactly the batches of a lawful log.
abbrev pub CopiesAnswer : List ℕ → HostClient → Result (Unit {0}) Fault → Type 0
CopiesAnswer text (Answered a) done =
    OnOk done ((text ≡ a.text) × IsAnswerOf a.server a.client.limits a.asked text a.rounds)
CopiesAnswer text client done = done ≡ Err fault.Idle

-- The outcomes are those of the keys that were asked for, one for each, in order: as a call of `load_many` gives them in a session of a
-- client of its server.
abbrev pub CopiesOutcomes : List OutcomeOf → HostClient → Result (Unit {0}) Fault → Type 0
CopiesOutcomes outcomes (Loaded d) done =
    OnOk done ((outcomes ≡ d.outcomes) × AreOutcomesOf d.client.server d.asked outcomes)
CopiesOutcomes outcomes client done = done ≡ Err fault.Idle

abbrev pub CopiesOrders : List OrderOf → HostClient → Result (Unit {0}) Fault → Type 0
CopiesOrders orders (Asked u) done = OnOk done (orders ≡ orders_out u.hand)
CopiesOrders orders (Loading l) done = OnOk done (orders ≡ load_orders l)
CopiesOrders orders client done = done ≡ Err fault.NoOrder

-- says what is copied of the client that a handle holds
abbrev pub Copies : (HostClient → Result (Unit {0}) Fault → Type 0) → Option Object → ℤ → Type 0
Copies copies held = Makes (λ c d. copies c) held held

-- says the same of a server
abbrev pub CopiesServer : (ServerOf → Result (Unit {0}) Fault → Type 0)
    → Object → Result (Unit {0}) Fault → Type 0
CopiesServer copies (object.Server s) done = copies s done
CopiesServer copies object done = done ≡ Err fault.BadHandle

abbrev pub CopiesOfServer : (ServerOf → Result (Unit {0}) Fault → Type 0)
    → Option Object → ℤ → Type 0
CopiesOfServer copies held code = WentAs code (IsMadeOf (CopiesServer copies) held)
