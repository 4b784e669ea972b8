-- Rows in any order that a host replies with, and faults of keys: what an order takes them for, and why they are refused.
use Rattle.std.specs.Prelude.{ℕ, ◌≡◌, List, MatchOption, slice_get}
use Rattle.flat_rows.specs.Keyed.{ByOf, IsKeyedReply, KeyedReplyFault, LaidRows, replied_items}
use Rattle.flat_rows.specs.declared.keyed.KeyedFault.{KeyedFault}
use Rattle.flat_rows.specs.declared.keyed.KeyedFault.TheVariants as keyed
use Rattle.load_memory.specs.Keys.{KeyOf}
use Rattle.host_clients.specs.Clients.{TakesReply, client_in, orders_in, pending_of}
use Rattle.host_clients.specs.Faults.{flat_fault}
use Rattle.host_clients.specs.Lines.{by_at, keyed_by}
use Rattle.host_clients.specs.Refused.{OrderFault}
use Rattle.host_clients.specs.declared.client.HostClient.{HostClient}
use Rattle.host_clients.specs.declared.fault.Fault.{Fault}
use Rattle.host_clients.specs.declared.fault.Fault.TheVariants as fault
use Rattle.host_clients.specs.declared.keyed.KeyedRefusal.{KeyedRefusal}
use Rattle.host_clients.specs.declared.keyed.KeyedRefusal.TheVariants.{NotAsked, Refused}

-- This holds of the order of that number in the round that is out: of the columns in which rows have their keys, by its loader's line,
-- and of its keys.
abbrev pub OfOrder : HostClient → ℕ → (ByOf → List KeyOf → Type 0) → Type 0
OfOrder client number holds = MatchOption (slice_get (orders_in client) number) ⊥
    (λ o. holds (keyed_by (by_at (client_in client).server o.loader)) o.keys)

-- An order takes rows that are laid out so: each key gets its fault, if it has one, and else the rows that have it, in the order given. No
-- row has another key.
abbrev pub TakesKeyed : ℕ → LaidRows → HostClient → HostClient → Type 0
TakesKeyed number r old new = OfOrder old number (λ by keys. IsKeyedReply by keys r
    × TakesReply number (replied_items by keys r) old new)

-- the fault of rows, as why a call is refused
abbrev pub keyed_refusal : KeyedFault → KeyedRefusal
keyed_refusal keyed.BadFaults = Refused fault.BadFaults
keyed_refusal (keyed.Rows e) = Refused (flat_fault e)
keyed_refusal keyed.NoKeyColumn = Refused fault.NoKeyColumn
keyed_refusal (keyed.NotAsked number) = NotAsked number

-- why such rows aren't taken: there is no such order, or it has a reply; or the first fault of the rows; or memory ran out
pub data KeyedRowsFault (number : ℕ) (r : LaidRows) (client : HostClient)
    (refusal : KeyedRefusal) : Type 0 where
  of_order : (e : Fault) → OrderFault (pending_of client) number e → refusal ≡ Refused e
      → KeyedRowsFault number r client refusal
  of_rows : (found : KeyedFault)
      → OfOrder client number (λ by keys. KeyedReplyFault by keys r found)
      → refusal ≡ keyed_refusal found → KeyedRowsFault number r client refusal
