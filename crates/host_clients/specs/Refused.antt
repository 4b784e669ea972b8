-- Why calls of a client are refused: each fault comes only where this holds, and no other fault comes. Of memory these say nothing, but
-- that no fault comes in its place.
use Rattle.std.specs.Prelude.{ℕ, ◌≡◌, ◌≢◌, ◌≤◌, ◌⊎◌, List, true, false, length, slice_get, IsUtf8}
use Rattle.rounds_by_hand.specs.Pending.{is_in_at}
use Rattle.rounds_by_hand.specs.declared.pending.Pending.{Pending}
use Rattle.plan_requests.specs.Servers.{ServerOf}
use Rattle.host_clients.specs.Clients.{HasCount, HasLoader, IsOther, LacksLoader, WaitsAt, client_in, is_busy, pending_of, width_in}
use Rattle.host_clients.specs.Laid.{AreKeyTexts, IsReplyFault, KeyFault, KeysFault, LaidKeys, LaidReply, TextsOf, items_at}
use Rattle.host_clients.specs.declared.client.HostClient.{HostClient}
use Rattle.host_clients.specs.declared.fault.Fault.{Fault}
use Rattle.host_clients.specs.declared.fault.Fault.TheVariants as fault

-- ---- what is asked of a client, and what it knows

-- the client is busy
abbrev pub BusyFault : HostClient → Fault → Type 0
BusyFault client fault.Busy = is_busy client ≡ true
BusyFault client e = ⊥

-- the client is busy, or memory ran out
abbrev pub BeginFault : HostClient → Fault → Type 0
BeginFault client fault.Busy = is_busy client ≡ true
BeginFault client fault.NoMemory = Unit {0}
BeginFault client e = ⊥

-- the client is busy; or what it is asked is planned by a server with another number of loaders, or memory ran out
abbrev pub AskFault : ServerOf → HostClient → Fault → Type 0
AskFault server client fault.Busy = is_busy client ≡ true
AskFault server client fault.OtherServer = (is_busy client ≡ false)
    × IsOther server (client_in client)
AskFault server client fault.NoMemory = is_busy client ≡ false
AskFault server client e = ⊥

-- the client is busy, or has no loader of that number
abbrev pub LoaderFault : ℕ → HostClient → Fault → Type 0
LoaderFault loader client fault.Busy = is_busy client ≡ true
LoaderFault loader client fault.NoLoader = LacksLoader client loader
LoaderFault loader client e = ⊥

-- says the same of a call that takes memory
abbrev pub KnownFault : ℕ → HostClient → Fault → Type 0
KnownFault loader client fault.Busy = is_busy client ≡ true
KnownFault loader client fault.NoLoader = LacksLoader client loader
KnownFault loader client fault.NoMemory = Unit {0}
KnownFault loader client e = ⊥

-- why no keys are begun to load: the client's fault comes first, then that of the keys
abbrev pub LoadFault : LaidKeys → HostClient → Fault → Type 0
LoadFault keys client e = LoaderFault keys.loader client e
    ⊎ (HasLoader client keys.loader × KeysFault (width_in client keys.loader) keys e)

-- why nothing is added for a key: the first fault of the client, of the key, or of the reply; or memory ran out
pub data PrimeFault (loader : ℕ) (key : TextsOf) (reply : LaidReply)
    (client : HostClient) (e : Fault) : Type 0 where
  of_client : LoaderFault loader client e → PrimeFault loader key reply client e
  of_key : HasLoader client loader → KeyFault (width_in client loader) key e
      → PrimeFault loader key reply client e
  of_reply : HasLoader client loader → AreKeyTexts (width_in client loader) key
      → IsReplyFault reply e → PrimeFault loader key reply client e
  of_count : HasLoader client loader → AreKeyTexts (width_in client loader) key
      → length (items_at reply) ≢ 1 → e ≡ fault.BadCount → PrimeFault loader key reply client e

-- why a key isn't forgotten: the client's fault comes first, then that of the key; or memory ran out
abbrev pub ClearFault : ℕ → TextsOf → HostClient → Fault → Type 0
ClearFault loader key client e = LoaderFault loader client e
    ⊎ (HasLoader client loader × KeyFault (width_in client loader) key e)

-- ---- replies

-- why an order of a round takes no reply: there is no such order, it has a reply, or memory ran out while it waited
abbrev pub OrderFault : List Pending → ℕ → Fault → Type 0
OrderFault pending number fault.NoOrder = length pending ≤ number
OrderFault pending number fault.Replied = is_in_at (slice_get pending number) ≡ true
OrderFault pending number fault.NoMemory = WaitsAt number pending
OrderFault pending number e = ⊥

-- why rows aren't taken: there is no such order; they are for another number of keys; the reply's first fault; or the order takes none
pub data RowsFault (number : ℕ) (reply : LaidReply) (client : HostClient)
    (e : Fault) : Type 0 where
  of_order : OrderFault (pending_of client) number e → RowsFault number reply client e
  of_count : (count : ℕ) → HasCount number count client → count ≢ length reply.rows
      → e ≡ fault.BadCount → RowsFault number reply client e
  of_reply : HasCount number (length reply.rows) client → IsReplyFault reply e
      → RowsFault number reply client e

-- why it isn't taken that a batch failed
abbrev pub FailureFault : ℕ → List ℕ → HostClient → Fault → Type 0
FailureFault number text client fault.NoOrder = length (pending_of client) ≤ number
FailureFault number text client fault.NotUtf8 = ¬ (IsUtf8 text)
FailureFault number text client fault.Replied =
    is_in_at (slice_get (pending_of client) number) ≡ true
FailureFault number text client fault.NoMemory = Unit {0}
FailureFault number text client e = ⊥
