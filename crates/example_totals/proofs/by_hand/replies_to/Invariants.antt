use Rattle.std.proofs.Common.{◌++◌, List, map}
use Rattle.load_memory.specs.Replies.{ReplyOf, reply_of}
use Rattle.load_queue.specs.Orders.{asks, AreCutBy}
use Rattle.execution.specs.Rounds.{may_at, AreReplies}
use Rattle.load_rounds.specs.Histories.{any_tell}
use Rattle.example_totals.proofs.by_hand.replies_to.Given as goal

-- with replies to the orders that are left, the replies are to all of them
abbrev pub invariant-loop-order : goal.invariant-loop-order
invariant-loop-order l = record {
  cut : AreCutBy l.loaders l.order-iterator.rest.items;
  rest : (more : List ReplyOf) → AreReplies (may_at any_tell l.loaders) (map asks l.order-iterator.rest.items) more → AreReplies (may_at any_tell l.loaders) (map asks l.fn.orders.items) (map reply_of l.replies.items ++ more);
}
