-- Rows in any order for the keys of an order.
use Rattle.std.proofs.Common.{◌≡◌, ◌≢◌, ◌∙◌, ℕ, List, Option, Some, None, Ok, Err, map, sym, ap, subst, inr}
use Rattle.std.specs.Prelude.{MatchOption, Result, IfErr, IsErrAnd, option_map, slice_get}
use Rattle.std.specs.Global.{Vec}
use Rattle.std.proofs.lemmas.Option.{slice_get-map}
use Rattle.flat_rows.specs.Keyed.{ByOf, IsKeyedReply, KeyedReplyFault, LaidRows, replied_items}
use Rattle.flat_rows.specs.declared.keyed.KeyedFault.{KeyedFault}
use Rattle.load_memory.specs.Keys.{KeyOf}
use Rattle.load_memory.specs.Outcomes.{item_of}
use Rattle.load_memory.specs.declared.outcome.Item.{Item}
use Rattle.load_queue.specs.Orders.{CutOf, OrderOf, asks}
use Rattle.rounds_by_hand.specs.Pending.{order_in}
use Rattle.rounds_by_hand.specs.declared.pending.Pending.TheVariants.{Out}
use Rattle.host_clients.specs.Clients.{KeepsOrStops, StopsAt, TakesReplyTo, TakesReply, client_in, orders_in, pending_of}
use Rattle.host_clients.specs.Keyed.{KeyedRowsFault, OfOrder, TakesKeyed, keyed_refusal, of_order, of_rows}
use Rattle.host_clients.specs.Lines.{by_at, keyed_by}
use Rattle.host_clients.specs.Refused.{OrderFault}
use Rattle.host_clients.specs.declared.client.HostClient.{HostClient}
use Rattle.host_clients.specs.declared.fault.Fault.{Fault}
use Rattle.host_clients.specs.declared.fault.Fault.TheVariants as fault
use Rattle.host_clients.specs.declared.keyed.KeyedRefusal.{KeyedRefusal}
use Rattle.host_clients.specs.declared.keyed.KeyedRefusal.TheVariants.{Refused}

-- ---- the order that waits

module _ (client : HostClient) (number : ℕ) where
  -- what is so of the order's keys, and of its loader's line
  of-waiting : (order : CutOf) → slice_get (pending_of client) number ≡ Some (Out order) → (P : ByOf → List KeyOf → Type 0) → P (keyed_by (by_at (client_in client).server order.loader)) order.keys → OfOrder client number P
  of-waiting order at P holds =
      let there : slice_get (map order_in (pending_of client)) number ≡ Some (asks order) = slice_get-map order_in (pending_of client) number ∙ ap (option_map order_in) at in rw there holds

  -- says the same of the keys as they are read, and of the columns as they are found
  pub of-read : (order : CutOf) → slice_get (pending_of client) number ≡ Some (Out order) → (by : ByOf) → by ≡ keyed_by (by_at (client_in client).server order.loader) → (keys : List KeyOf) → keys ≡ order.keys
      → (P : ByOf → List KeyOf → Type 0) → P by keys → OfOrder client number P
  of-read order at by by-is keys keys-are P holds = of-waiting order at P (subst (λ (b : ByOf). P b order.keys) by-is (subst (P by) keys-are holds))

  of-both : (P Q R : ByOf → List KeyOf → Type 0) → ((by : ByOf) (keys : List KeyOf) → P by keys → Q by keys → R by keys) → OfOrder client number P → OfOrder client number Q → OfOrder client number R
  of-both P Q R both = go (slice_get (orders_in client) number) where
    Holds : (ByOf → List KeyOf → Type 0) → Option OrderOf → Type 0
    Holds X o = MatchOption o ⊥ (λ (o : OrderOf). X (keyed_by (by_at (client_in client).server o.loader)) o.keys)

    go : (o : Option OrderOf) → Holds P o → Holds Q o → Holds R o
    go None p q = p
    go (Some o) p q = both (keyed_by (by_at (client_in client).server o.loader)) o.keys p q

pub taken-by-key : (number : ℕ) (r : LaidRows) (old new : HostClient) (items : Vec Item) → OfOrder old number (λ by keys. map item_of items.items ≡ replied_items by keys r)
    → OfOrder old number (λ by keys. IsKeyedReply by keys r) → TakesReplyTo number (Ok items) old new → TakesKeyed number r old new
taken-by-key number r old new items are taken takes =
    of-both old number (λ by keys. map item_of items.items ≡ replied_items by keys r) (λ by keys. IsKeyedReply by keys r)
    (λ by keys. IsKeyedReply by keys r × TakesReply number (replied_items by keys r) old new)
    (λ by keys is reply. (reply, record { items = items; are_said = is; takes = takes })) are taken

-- ---- why they aren't taken

-- the order takes none
module _ (number : ℕ) (r : LaidRows) (old new : HostClient) (e : Fault) (result : Result (Unit {0}) KeyedRefusal) (is : IsErrAnd result (λ g. g ≡ Refused e)) where
  pub refused-kept : (e ≢ fault.NoMemory → new ≡ old) → IfErr result (λ g. g ≢ Refused fault.NoMemory → new ≡ old)
  refused-kept kept = go result is where
    go : (x : Result (Unit {0}) KeyedRefusal) → IsErrAnd x (λ g. g ≡ Refused e) → IfErr x (λ g. g ≢ Refused fault.NoMemory → new ≡ old)
    go (Ok d) same = tt
    go (Err g) same = λ other. kept (λ no. other (same ∙ ap Refused no))

  pub refused-stops : (e ≡ fault.NoMemory → StopsAt number old new) → IfErr result (λ g. g ≡ Refused fault.NoMemory → KeepsOrStops number old new)
  refused-stops stops = go result is where
    go : (x : Result (Unit {0}) KeyedRefusal) → IsErrAnd x (λ g. g ≡ Refused e) → IfErr x (λ g. g ≡ Refused fault.NoMemory → KeepsOrStops number old new)
    go (Ok d) same = tt
    go (Err g) same = λ no. let both : Refused e ≡ Refused fault.NoMemory = sym same ∙ no in inr (stops (cc both))

  pub refused-order : OrderFault (pending_of old) number e → IfErr result (KeyedRowsFault number r old)
  refused-order why = go result is where
    go : (x : Result (Unit {0}) KeyedRefusal) → IsErrAnd x (λ g. g ≡ Refused e) → IfErr x (KeyedRowsFault number r old)
    go (Ok d) same = tt
    go (Err g) same = of_order e why same

-- the rows have a fault
pub refused-rows : {T : Type 0} (number : ℕ) (r : LaidRows) (client : HostClient) (found : KeyedFault) (result : Result T KeyedRefusal) → IsErrAnd result (λ g. g ≡ keyed_refusal found)
    → OfOrder client number (λ by keys. KeyedReplyFault by keys r found) → IfErr result (KeyedRowsFault number r client)
refused-rows number r client found (Ok x) is why = tt
refused-rows number r client found (Err g) is why = of_rows found why is
