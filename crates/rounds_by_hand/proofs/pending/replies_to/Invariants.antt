use Rattle.std.proofs.Common.{length, ◌<◌}
use Rattle.std.specs.Prelude.{All}
use Rattle.execution.specs.Rounds.{any_answer, may_at}
use Rattle.load_rounds.specs.Histories.{any_tell}
use Rattle.rounds_by_hand.specs.Pending.{order_in, CanAsk, IsReplied}
use Rattle.rounds_by_hand.proofs.Orders.{RepliesSoFar}
use Rattle.rounds_by_hand.proofs.Storing.{GivenSoFar}
use Rattle.rounds_by_hand.proofs.pending.replies_to.Given as goal

abbrev pub invariant-loop-one : goal.invariant-loop-one
invariant-loop-one g l = record {
  below : All (λ one. (order_in one).loader < length l.loaders) l.one-iterator.rest.items;
  own : All (CanAsk l.loaders) l.one-iterator.rest.items;
  any : RepliesSoFar (IsReplied any_answer) (may_at any_tell l.loaders) l.fn.pending.items l.one-iterator.rest.items l.replies.items;
  told : RepliesSoFar (IsReplied (may_at g.S.LocalSource.may_tell l.loaders)) (may_at g.S.LocalSource.may_tell l.loaders) l.fn.pending.items l.one-iterator.rest.items l.replies.items;
  as_given : GivenSoFar (may_at g.S.LocalSource.may_tell l.loaders) l.fn.pending.items l.one-iterator.rest.items l.replies.items;
}
