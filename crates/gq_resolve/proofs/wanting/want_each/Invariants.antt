use Rattle.std.proofs.Common.{drop, IsTrue}
use Rattle.gq_resolve.specs.NewKeys.{AreNew}
use Rattle.gq_resolve.proofs.Evaluating.{AreAdded}
use Rattle.gq_resolve.proofs.wanting.want_each.Given as goal

abbrev pub invariant-loop-position : goal.invariant-loop-position
invariant-loop-position l = record {
  added : AreAdded l.fn.wants l.wants l.waiting (drop l.position-index l.waiting);
  new : IsTrue l.are_new → AreNew l.wants (drop l.position-index l.waiting);
}
