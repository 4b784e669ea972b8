use Rattle.rules_spreads.specs.SpreadReaches.{AreListed}
use Rattle.rules_spreads.proofs.spread_reach.clear.Given as goal

abbrev pub invariant-loop-fragment : goal.invariant-loop-fragment
invariant-loop-fragment l = AreListed l.marks.items l.reached.items

abbrev pub decreases-loop-fragment : goal.decreases-loop-fragment
decreases-loop-fragment l = goal.left-loop-fragment l
