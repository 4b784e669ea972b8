use Rattle.std.proofs.Common.{◌-◌, length}
use Rattle.rules_spreads.proofs.WalkLaws.{Follows}
use Rattle.rules_spreads.proofs.spread_reach.follow.Given as goal

abbrev pub invariant-loop-next : goal.invariant-loop-next
invariant-loop-next l = Follows l.graph l.fn.owner l.marks.items l.reached.items l.next

abbrev pub decreases-loop-next : goal.decreases-loop-next
decreases-loop-next l = length l.marks.items - l.next
