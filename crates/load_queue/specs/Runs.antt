-- Definitions of what a reply to an order says.
use Rattle.std.specs.Prelude.{◌≡◌, List, length, slice_get, Some}
use Rattle.load_memory.specs.Keys.{KeyOf}
use Rattle.load_memory.specs.Replies.{ReplyOf}
use Rattle.load_queue.specs.Answers.{AnswerOf, outcomes_of}
use Rattle.load_queue.specs.Loaders.{LoaderOf}
use Rattle.load_queue.specs.Orders.{OrderOf}

-- the reply bears the order's number and keys, and has the outcomes of an answer that the source of the loader of
-- that number may give for these keys
pub record IsReplyTo {S : Type 0} (may : S → List KeyOf → AnswerOf → Type 0)
    (loaders : List (LoaderOf S)) (order : OrderOf) (reply : ReplyOf) : Type 0 where
  pub loader : reply.loader ≡ order.loader
  pub keys : reply.keys ≡ order.keys
  pub asked : LoaderOf S
  pub asked_is : slice_get loaders order.loader ≡ Some asked
  pub answer : AnswerOf
  pub may_be : may asked.source order.keys answer
  pub outcomes : reply.outcomes ≡ outcomes_of (length order.keys) answer
