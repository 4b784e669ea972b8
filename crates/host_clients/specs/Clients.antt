-- Definitions of what the calls of a client make of it.
use Rattle.std.specs.Prelude.{ℕ, ◌≡◌, ◌≢◌, ◌<◌, ◌≤◌, ◌⊎◌, List, [], Bool, true, false, Some, Result, Ok, Err, map, length, slice_get, option_map, String, string_bytes}
use Rattle.std.specs.Global.{Vec, Global}
use Rattle.std.specs.declared.alloc.AllocError.{AllocError}
use Rattle.load_memory.specs.Outcomes.{ItemOf, item_of}
use Rattle.load_memory.specs.declared.outcome.Item.{Item}
use Rattle.load_queue.specs.declared.source.FetchFault.{FetchFault}
use Rattle.load_queue.specs.declared.source.FetchFault.TheVariants.{Failed}
use Rattle.load_queue.specs.Orders.{OrderOf}
use Rattle.flat_orders.specs.Orders.{keys_of}
use Rattle.load_rounds.specs.Histories.{Loading as LoadingCall, any_tell}
use Rattle.load_rounds.specs.Reading.{KeysOf}
use Rattle.load_rounds.specs.declared.answer.Answer.{Answer}
use Rattle.rounds_by_hand.specs.Hands.{handed, can_advance, pending_in, IsNewRound, IsReady, IsWaiting, IsOver}
use Rattle.rounds_by_hand.specs.Pending.{TakesReply as TakesReplyAt, is_in_at, order_in}
use Rattle.rounds_by_hand.specs.declared.fault.TakeFault.{TakeFault}
use Rattle.rounds_by_hand.specs.declared.fault.TakeFault.TheVariants as take
use Rattle.rounds_by_hand.specs.declared.pending.Pending.{Pending}
use Rattle.rounds_by_hand.specs.declared.progress.Progress.{Progress}
use Rattle.rounds_by_hand.specs.declared.progress.Progress.TheVariants.{Done, Round, Working, Waiting, Over}
use Rattle.plan_requests.specs.Servers.{ServerOf}
use Rattle.server.specs.Clients.{ClientOf, IsClientCall, IsSameClient}
use Rattle.server.specs.Hands.{IsUnderway, GoesOn, GivesUp, Nears, StoresReplies}
use Rattle.server.specs.LoadsByHand.{LoadByHandOf, ClientStopsLoad, ClientStores, IsLoadUnderway, LoadGoesOn, load_by_hand_of}
use Rattle.rounds_by_hand.specs.declared.handed_in.HandedIn.{HandedIn}
use Rattle.host_clients.specs.Asked.{HostAsked, PlansHost, AnswersHost}
use Rattle.host_clients.specs.Lines.{width_at}
use Rattle.host_clients.specs.Loads.{LoadedOf}
use Rattle.host_clients.specs.UnderWay.{UnderWayOf, AnsweredOf, IsAnswerOf, report_in}
use Rattle.host_clients.specs.declared.fault.Fault.{Fault}
use Rattle.host_clients.specs.declared.fault.Fault.TheVariants as fault
use Rattle.host_clients.specs.declared.client.HostClient.{HostClient}
use Rattle.host_clients.specs.declared.client.HostClient.TheVariants.{Idle, Asked, Answered, Loading, Loaded}

-- the client, as it is
abbrev pub client_in : HostClient → ClientOf HandedIn
client_in (Idle c) = c
client_in (Asked u) = u.hand.client
client_in (Answered a) = a.client
client_in (Loading l) = l.client
client_in (Loaded d) = d.client

-- a request is being answered, or keys are loaded
abbrev pub is_busy : HostClient → Bool
is_busy (Asked u) = true
is_busy (Loading l) = true
is_busy client = false

-- the orders of the round that is out, with the replies that are there
abbrev pub pending_of : HostClient → List Pending
pending_of (Asked u) = pending_in u.hand.far
pending_of (Loading l) = pending_in l.far
pending_of client = []

-- the same orders alone
abbrev pub orders_in : HostClient → List OrderOf
orders_in client = map order_in (pending_of client)

-- a client that isn't busy has no loader of this number
abbrev pub LacksLoader : HostClient → ℕ → Type 0
LacksLoader client loader = (is_busy client ≡ false)
    × (length (client_in client).session.loaders ≤ loader)

-- a client that isn't busy has one
abbrev pub HasLoader : HostClient → ℕ → Type 0
HasLoader client loader = (is_busy client ≡ false)
    × (loader < length (client_in client).session.loaders)

-- gives how many texts a key of a client's loader has: as many as the loader has columns
abbrev pub width_in : HostClient → ℕ → ℕ
width_in client loader = width_at (client_in client).server loader

-- ---- what is begun

-- it is planned by a server within the client's limit, and nothing is asked yet
pub record IsBegunWith (server : ServerOf) (asked : HostAsked) (u : UnderWayOf) : Type 0 where
  pub server_is : u.server ≡ server
  pub asked_is : u.asked ≡ asked
  pub planned : PlansHost server u.hand.client.most asked u.hand.planned
  pub far : u.hand.far ≡ handed

-- the server has another number of loaders than the client's session
abbrev pub IsOther : ServerOf → ClientOf HandedIn → Type 0
IsOther server c = length server.bindings.loaders ≢ length c.session.loaders

-- a client that wasn't busy has begun what it was asked of a server
abbrev pub IsBegun : ServerOf → HostClient → HostAsked → HostClient → Type 0
IsBegun server old asked (Asked u) = (u.hand.client ≡ client_in old)
    × IsBegunWith server asked u
IsBegun server old asked new = ⊥

-- a client that wasn't busy has begun to load keys; nothing is done of it yet
abbrev pub IsBegunLoad : KeysOf → HostClient → HostClient → Type 0
IsBegunLoad asked old (Loading l) = l ≡ load_by_hand_of (client_in old) asked handed
IsBegunLoad asked old new = ⊥

-- ---- what is on its way

-- What is asked stays. From whichever client it was begun on: nothing but its rounds was made in its session, and within its limits.
pub record IsSameRequest (u v : UnderWayOf) : Type 0 where
  pub server_is : v.server ≡ u.server
  pub asked_is : v.asked ≡ u.asked
  pub planned_is : v.hand.planned ≡ u.hand.planned
  pub goes_on : GoesOn any_tell u.hand v.hand

-- says the same of keys that are loaded
pub record IsSameLoad (l m : LoadByHandOf HandedIn) : Type 0 where
  pub same_keys : m.keys ≡ l.keys
  pub goes_on : LoadGoesOn any_tell l m

abbrev pub IsSameWork : HostClient → HostClient → Type 0
IsSameWork (Asked u) (Asked v) = IsSameRequest u v
IsSameWork (Loading l) (Loading m) = IsSameLoad l m
IsSameWork old new = ⊥

-- the round that is out has an order without a reply
abbrev pub Waits : HostClient → Type 0
Waits (Asked u) = IsWaiting u.hand.far
Waits (Loading l) = IsWaiting l.far
Waits client = ⊥

-- memory ran out in what is on its way
abbrev pub IsStopped : HostClient → Type 0
IsStopped (Asked u) = IsOver u.hand.far
IsStopped (Loading l) = IsOver l.far
IsStopped client = ⊥

-- it is given up: the finished rounds stay in the client's session, and perhaps one more was lost
abbrev pub IsGivenUp : HostClient → HostClient → Type 0
IsGivenUp (Asked u) (Idle c) = IsSameClient u.hand.client c × GivesUp any_tell u.hand c
IsGivenUp (Loading l) (Idle c) = IsSameClient l.client c × ClientStopsLoad any_tell l c
IsGivenUp old new = ⊥

-- What the client knows now is what it knew, with just what the host replied to the orders of the round that was out.
abbrev pub StoresRound : HostClient → ClientOf HandedIn → Type 0
StoresRound (Asked u) client = StoresReplies u.hand client
StoresRound (Loading l) client = ClientStores l client
StoresRound old client = ⊥

-- From whichever client it was begun: this answers it in the client's session.
pub record AnswersIt (u : UnderWayOf) (a : AnsweredOf) : Type 0 where
  pub server_is : a.server ≡ u.server
  pub asked_is : a.asked ≡ u.asked
  pub answers : (c : ClientOf HandedIn) → IsUnderway any_tell c u.hand
      → PlansHost c.server c.most u.asked u.hand.planned
      → (loads : ℕ) × AnswersHost any_tell c u.asked (report_in a loads) a.client.session

-- Each order of its round had a reply, if it had a round. From whichever client it was begun: all that was done in its session is a call
-- that loads these keys, and these are its outcomes.
pub record LoadsIt (l : LoadByHandOf HandedIn) (d : LoadedOf) : Type 0 where
  pub ready : can_advance l.far ≡ true
  pub asked_is : d.asked ≡ l.keys
  pub loads : (c : ClientOf HandedIn) → IsLoadUnderway any_tell c.session l
      → IsClientCall any_tell (LoadingCall l.keys.loader l.keys.keys d.outcomes) c d.client

abbrev pub Finishes : HostClient → HostClient → Type 0
Finishes (Asked u) (Answered a) = AnswersIt u a
Finishes (Loading l) (Loaded d) = LoadsIt l d
Finishes old new = ⊥

-- a new round is out; of keys that are loaded it is the first, of those that aren't known
abbrev pub MakesRound : HostClient → HostClient → Type 0
MakesRound (Asked u) (Asked v) = IsSameRequest u v × IsNewRound v.hand.far
MakesRound (Loading l) (Loading m) = (l.far ≡ handed) × IsSameLoad l m × IsNewRound m.far
MakesRound old new = ⊥

-- Steps are left, and no order is out. The client has a limit on steps. Where some were left before, fewer are now, so that such calls in a row
-- come to an end. Keys that are loaded leave none.
abbrev pub LeavesSteps : HostClient → HostClient → Type 0
LeavesSteps (Asked u) (Asked v) = IsSameRequest u v × IsReady v.hand.far
    × Nears u.hand v.hand Working
LeavesSteps old new = ⊥

-- the server and the limits stay, and the replies are stored
pub record Stores (old new : HostClient) : Type 0 where
  pub same : IsSameClient (client_in old) (client_in new)
  pub stored : StoresRound old (client_in new)

-- says what comes of what is on its way
abbrev pub GoesOnWith : HostClient → HostClient → Result (Progress (Unit {0})) Fault → Type 0
GoesOnWith old new (Ok (Done done)) = Stores old new × Finishes old new
GoesOnWith old new (Ok Round) = Stores old new × MakesRound old new
GoesOnWith old new (Ok Working) = Stores old new × LeavesSteps old new
GoesOnWith old new (Ok Waiting) = Waits old × (new ≡ old)
GoesOnWith old new (Ok Over) = IsGivenUp old new × IsStopped old
GoesOnWith old new (Err e) = IsGivenUp old new × (e ≡ fault.NoMemory)

-- says what a call to go on makes of a client
abbrev pub Advances : HostClient → HostClient → Result (Progress (Unit {0})) Fault → Type 0
Advances (Idle c) new result = (new ≡ Idle c) × (result ≡ Err fault.Idle)
Advances (Answered a) new result = (new ≡ Answered a) × (result ≡ Ok (Done tt))
Advances (Loaded d) new result = (new ≡ Loaded d) × (result ≡ Ok (Done tt))
Advances old new result = GoesOnWith old new result

-- a client gives up what is on its way
abbrev pub Cancels : HostClient → HostClient → Result (Unit {0}) Fault → Type 0
Cancels old new (Ok done) = IsGivenUp old new
Cancels old new (Err e) = (is_busy old ≡ false) × (new ≡ old) × (e ≡ fault.Idle)

-- ---- a request in steps

-- the client with this answer to its request
abbrev pub answered_by : UnderWayOf → Answer → AnsweredOf
answered_by u answer = record {
  client = u.hand.client;
  server = u.server;
  asked = u.asked;
  text = string_bytes answer.text;
  rounds = answer.rounds;
}

abbrev pub answered_with : HostClient → Answer → HostClient
answered_with (Asked u) answer = Answered (answered_by u answer)
answered_with client answer = client

-- this is the answer to a request
abbrev pub IsAnswered : UnderWayOf → Answer → Type 0
IsAnswered u answer =
    IsAnswerOf u.server u.hand.client.limits u.asked (string_bytes answer.text) answer.rounds

abbrev pub CanAnswer : HostClient → Answer → Type 0
CanAnswer (Asked u) answer = IsAnswered u answer
CanAnswer client answer = Unit {0}

-- says what a step makes of a request: where it is answered or has ended, its client is still to be left
abbrev pub StepsOn : UnderWayOf → UnderWayOf → Result (Progress Answer) AllocError → Type 0
StepsOn u v (Ok (Done answer)) = IsAnswered v answer
    × GoesOnWith (Asked u) (Answered (answered_by v answer)) (Ok (Done tt))
StepsOn u v (Ok Round) = GoesOnWith (Asked u) (Asked v) (Ok Round)
StepsOn u v (Ok Working) = GoesOnWith (Asked u) (Asked v) (Ok Working)
StepsOn u v (Ok Waiting) = GoesOnWith (Asked u) (Asked v) (Ok Waiting)
StepsOn u v (Ok Over) = IsSameRequest u v × IsSameClient u.hand.client v.hand.client
    × IsStopped (Asked u)
StepsOn u v (Err e) = IsSameRequest u v × IsSameClient u.hand.client v.hand.client

-- the answer that a step gave can be left with the client
abbrev pub CanEnd : Result (Progress Answer) AllocError → HostClient → Type 0
CanEnd (Ok (Done answer)) client = CanAnswer client answer
CanEnd did client = Unit {0}

-- a client that was busy is left alone
abbrev pub Settles : HostClient → HostClient → Type 0
Settles old new = (new ≡ Idle (client_in old)) × (is_busy old ≡ true → IsGivenUp old new)

-- says what is left of a client by what came of a step of its request
abbrev pub Ends : Result (Progress Answer) AllocError → HostClient
    → HostClient → Result (Progress (Unit {0})) Fault → Type 0
Ends (Ok (Done answer)) old new result = (new ≡ answered_with old answer) × (result ≡ Ok (Done tt))
Ends (Ok Round) old new result = (new ≡ old) × (result ≡ Ok Round)
Ends (Ok Working) old new result = (new ≡ old) × (result ≡ Ok Working)
Ends (Ok Waiting) old new result = (new ≡ old) × (result ≡ Ok Waiting)
Ends (Ok Over) old new result = Settles old new × (result ≡ Ok Over)
Ends (Err e) old new result = Settles old new × (result ≡ Err fault.NoMemory)

-- says what a call to go on makes of a client that loads keys
abbrev pub LoadsOn : HostClient → HostClient → Result (Progress (Unit {0})) Fault → Type 0
LoadsOn (Loading l) new result = Advances (Loading l) new result
LoadsOn old new result = Unit {0}

-- ---- replies

-- a step that makes a round puts its orders in place of those of the round before; where steps are left, none are out
abbrev pub orders_then : {T : Type 0} → Progress T → List OrderOf → List OrderOf → List OrderOf
orders_then Round made orders = made
orders_then Working made orders = []
orders_then did made orders = orders

-- where memory ran out no orders are out any more
abbrev pub orders_after : Result (Unit {0}) TakeFault → List OrderOf → List OrderOf
orders_after (Err take.NoMemory) orders = []
orders_after result orders = orders

-- an order of the round that is out takes a reply, and the others stay as they are, as does the client
pub record TakesReplyTo (number : ℕ) (reply : Result (Vec Item) FetchFault)
    (old new : HostClient) : Type 0 where
  pub goes_on : IsSameWork old new
  pub client_is : client_in new ≡ client_in old
  pub takes : TakesReplyAt (pending_of old) number reply (pending_of new)

-- the order of this number waits for its reply
abbrev pub WaitsAt : ℕ → List Pending → Type 0
WaitsAt number pending = (number < length pending)
    × (is_in_at (slice_get pending number) ≡ false)

-- Memory ran out at the reply to an order that waited: what was asked is given up, which the next call to go on tells. The client is as it
-- was, with all that it knows, and no order has a reply.
pub record StopsAt (number : ℕ) (old new : HostClient) : Type 0 where
  pub goes_on : IsSameWork old new
  pub client_is : client_in new ≡ client_in old
  pub waited : WaitsAt number (pending_of old)
  pub is_over : IsStopped new

-- says what comes of a reply to an order of the round that is out
abbrev pub Takes : ℕ → Result (Vec Item) FetchFault
    → HostClient → HostClient → Result (Unit {0}) TakeFault → Type 0
Takes number reply old new (Ok done) = TakesReplyTo number reply old new
Takes number reply old new (Err take.NoSuchOrder) = (new ≡ old)
    × (length (pending_of old) ≤ number)
Takes number reply old new (Err take.Replied) = (new ≡ old)
    × (is_in_at (slice_get (pending_of old) number) ≡ true)
Takes number reply old new (Err take.NoMemory) = StopsAt number old new

-- after want of memory: nothing has changed, or what is under way stops at the reply to an order
abbrev pub KeepsOrStops : ℕ → HostClient → HostClient → Type 0
KeepsOrStops number old new = (new ≡ old) ⊎ StopsAt number old new

-- a reply is taken for an order: these items, as the host laid them out
pub record TakesReply (number : ℕ) (said : List ItemOf) (old new : HostClient) : Type 0 where
  pub items : Vec Item
  pub are_said : map item_of items.items ≡ said
  pub takes : TakesReplyTo number (Ok items) old new

-- it is taken that the batch of an order failed as a whole, with this text
pub record TakesFailure (number : ℕ) (said : List ℕ) (old new : HostClient) : Type 0 where
  pub text : String Global
  pub is_said : string_bytes text ≡ said
  pub takes : TakesReplyTo number (Err (Failed text)) old new

-- the order of this number in the round that is out has `count` keys
abbrev pub HasCount : ℕ → ℕ → HostClient → Type 0
HasCount number count client =
    option_map (λ o. length (keys_of o)) (slice_get (orders_in client) number) ≡ Some count
