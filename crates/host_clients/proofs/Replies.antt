-- Lemmas on what a call that takes a reply says of it.
use Rattle.std.proofs.Common.{◌≡◌, ℕ, List, Ok, Err, map, string_bytes}
use Rattle.std.specs.Prelude.{Result, OnOk, String}
use Rattle.std.specs.Global.{Global, Vec}
use Rattle.load_memory.specs.Outcomes.{ItemOf, item_of}
use Rattle.load_memory.specs.declared.outcome.Item.{Item}
use Rattle.load_queue.specs.declared.source.FetchFault.TheVariants.{Failed}
use Rattle.host_clients.specs.Clients.{TakesReplyTo, TakesFailure, TakesReply}
use Rattle.host_clients.specs.declared.client.HostClient.{HostClient}
use Rattle.host_clients.specs.declared.fault.Fault.{Fault}

module _ (number : ℕ) (old new : HostClient) where
  pub reply-taken : (r : Result (Unit {0}) Fault) (said : List ItemOf) (items : Vec Item) → map item_of items.items ≡ said → OnOk r (TakesReplyTo number (Ok items) old new)
      → OnOk r (TakesReply number said old new)
  reply-taken (Ok done) said items are takes = record { items = items; are_said = are; takes = takes }
  reply-taken (Err e) said items are takes = tt

  pub failure-taken : (r : Result (Unit {0}) Fault) (said : List ℕ) (text : String Global) → string_bytes text ≡ said → OnOk r (TakesReplyTo number (Err (Failed text)) old new)
      → OnOk r (TakesFailure number said old new)
  failure-taken (Ok done) said text is takes = record { text = text; is_said = is; takes = takes }
  failure-taken (Err e) said text is takes = tt
