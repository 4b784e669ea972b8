use Rattle.std.proofs.Common.{drop}
use Rattle.gq_check.specs.Plans.{plan_of}
use Rattle.gq_resolve.proofs.Advancing.{AreResumed}
use Rattle.gq_resolve.proofs.advance.search_waiting.Given as goal

abbrev pub invariant-loop-position : goal.invariant-loop-position
invariant-loop-position l = AreResumed l.walk.most (plan_of l.walk.plan.now) l.walk.memory.now l.fn.waiting (drop l.position-index l.fn.waiting) l.initial.at l.at
