-- An order that is answered with items from elsewhere has a reply that its source may give too, where it may answer anything.
use Rattle.std.proofs.Common.{◌≡◌, ◌<◌, ℕ, zero, suc, List, [], ◌∷◌, length, map, Some, Result, Ok, Err, IfOk, refl, arith, string_bytes}
use Rattle.std.specs.Prelude.{slice_get}
use Rattle.std.specs.Global.{Vec}
use Rattle.load_memory.specs.Outcomes.{item_of}
use Rattle.load_memory.specs.Replies.{reply_of}
use Rattle.std.specs.declared.alloc.AllocError.{AllocError}
use Rattle.load_memory.specs.declared.outcome.Item.{Item}
use Rattle.load_memory.specs.declared.reply.Reply.{Reply}
use Rattle.load_queue.specs.Answers.{given, failed}
use Rattle.load_queue.specs.Fetched.{Follow}
use Rattle.load_queue.specs.Loaders.{LoaderOf}
use Rattle.load_queue.specs.Orders.{OrderOf}
use Rattle.load_queue.specs.declared.source.FetchFault.{FetchFault}
use Rattle.load_queue.specs.declared.source.FetchFault.TheVariants.{Failed, NoMemory as Wanting}
use Rattle.execution.specs.Rounds.{may_at, IsReply}
use Rattle.load_rounds.specs.Histories.{any_tell}

got-at : {A : Type 0} (xs : List A) (i : ℕ) → i < length xs → (x : A) × (slice_get xs i ≡ Some x)
got-at [] i h = absurd (omega arith)
got-at (x ∷ xs) zero h = (x, refl)
got-at (x ∷ xs) (suc i) h = got-at xs i (omega arith)

module _ {S : Type 0} (loaders : List (LoaderOf S)) (order : OrderOf) (there : order.loader < length loaders) where
  follows : (answer : Result (Vec Item) FetchFault) (reply : Reply) → reply.loader ≡ order.loader → (reply_of reply).keys ≡ order.keys → Follow (reply_of reply).outcomes answer (length order.keys) → IsReply (may_at any_tell loaders) order (reply_of reply)
  follows (Ok items) reply e f h =
      let asked = got-at loaders order.loader there in
      record { loader = e; keys = f; answer = given (map item_of items.items); may_be = (asked.0, asked.1, tt); outcomes = h }
  follows (Err (Failed text)) reply e f h =
      let asked = got-at loaders order.loader there in
      record { loader = e; keys = f; answer = failed (string_bytes text); may_be = (asked.0, asked.1, tt); outcomes = h }
  follows (Err Wanting) reply e f h = absurd h

  pub replied : (answer : Result (Vec Item) FetchFault) (r : Result Reply AllocError) → IfOk r (λ reply. reply.loader ≡ order.loader) → IfOk r (λ reply. (reply_of reply).keys ≡ order.keys)
      → IfOk r (λ reply. Follow (reply_of reply).outcomes answer (length order.keys)) → IfOk r (λ reply. IsReply (may_at any_tell loaders) order (reply_of reply))
  replied answer (Ok reply) e f h = follows answer reply e f h
  replied answer (Err fault) e f h = tt
