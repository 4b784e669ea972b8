use Rattle.std.proofs.Common.{◌++◌, List, map}
use Rattle.load_memory.specs.Replies.{ReplyOf, reply_of}
use Rattle.load_queue.specs.Orders.{asks, AreCutBy}
use Rattle.execution.specs.Rounds.{may_at, AreReplies}
use Rattle.load_rounds.proofs.round.run_all.Given as goal

abbrev pub invariant-loop-order : goal.invariant-loop-order
invariant-loop-order g l = record {
  cut : AreCutBy l.loaders l.order-iterator.rest.items;
  rest : (more : List ReplyOf) → AreReplies (may_at g.S.LocalSource.may_tell l.loaders) (map asks l.order-iterator.rest.items) more → AreReplies (may_at g.S.LocalSource.may_tell l.loaders) (map asks l.fn.orders.items) (map reply_of l.replies.items ++ more);
}
