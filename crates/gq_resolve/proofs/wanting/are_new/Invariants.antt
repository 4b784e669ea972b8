use Rattle.std.proofs.Common.{drop}
use Rattle.gq_resolve.proofs.AddingNew.{AreAlike}
use Rattle.gq_resolve.proofs.wanting.are_new.Given as goal

abbrev pub invariant-loop-position : goal.invariant-loop-position
invariant-loop-position l = AreAlike l.onwards.items l.wants l.waiting (drop l.position-index l.waiting)
