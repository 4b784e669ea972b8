-- An answer that a loader's source may give makes a reply.
use Rattle.std.proofs.Common.{◌≡◌, ℕ, List, length, Some, Result, Ok, Err, refl}
use Rattle.std.specs.Prelude.{map, slice_get, string_bytes}
use Rattle.std.specs.Global.{Vec}
use Rattle.load_memory.specs.Keys.{KeyOf}
use Rattle.load_memory.specs.Outcomes.{OutcomeOf, item_of}
use Rattle.load_memory.specs.declared.outcome.Item.{Item}
use Rattle.load_queue.specs.Answers.{AnswerOf, given, failed}
use Rattle.load_queue.specs.Fetched.{Fetched, Follow}
use Rattle.load_queue.specs.Loaders.{LoaderOf}
use Rattle.load_queue.specs.Orders.{order_of}
use Rattle.load_queue.specs.Runs.{IsReplyTo}
use Rattle.load_queue.specs.declared.source.FetchFault.{FetchFault}
use Rattle.load_queue.specs.declared.source.FetchFault.TheVariants.{Failed, NoMemory}

module _ {S : Type 0} (may : S → List KeyOf → AnswerOf → Type 0) (loaders : List (LoaderOf S)) (loader : ℕ) (keys : List KeyOf) (asked : LoaderOf S) (outcomes : List OutcomeOf) (at : slice_get loaders loader ≡ Some asked) where
  pub replies : (answer : Result (Vec Item) FetchFault) → Fetched (may asked.source keys) answer → Follow outcomes answer (length keys)
      → IsReplyTo may loaders (order_of loader keys) (record { loader = loader; keys = keys; outcomes = outcomes })
  replies (Ok items) can follow = record { loader = refl; keys = refl; asked = asked; asked_is = at; answer = given (map item_of items.items); may_be = can; outcomes = follow }
  replies (Err (Failed text)) can follow = record { loader = refl; keys = refl; asked = asked; asked_is = at; answer = failed (string_bytes text); may_be = can; outcomes = follow }
  replies (Err NoMemory) can follow = absurd follow
