use Rattle.std.proofs.Common.{IsTrue}
use Rattle.plan_walk.specs.Noted.{left_of_own}
use Rattle.gq_resolve.specs.NewKeys.{AreNew}
use Rattle.gq_resolve.proofs.Evaluating.{AreAdded}
use Rattle.gq_resolve.proofs.wanting.want_all.Given as goal

abbrev pub invariant-loop-position : goal.invariant-loop-position
invariant-loop-position l = record {
  added : AreAdded l.fn.wants l.wants l.fn.waiting (left_of_own l.position-iterator);
  new : IsTrue l.are_new → AreNew l.wants (left_of_own l.position-iterator);
}
