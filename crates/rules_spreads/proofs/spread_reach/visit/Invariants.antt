use Rattle.std.proofs.Common.{take}
use Rattle.rules_spreads.specs.SpreadReaches.{Visits}
use Rattle.rules_spreads.proofs.spread_reach.visit.Given as goal

abbrev pub invariant-loop-target : goal.invariant-loop-target
invariant-loop-target l = Visits l.fn.marks.items l.marks.items l.fn.reached.items l.reached.items (take l.target-index l.targets)
