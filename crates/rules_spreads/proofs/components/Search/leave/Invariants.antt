use Rattle.rules_spreads.proofs.components.Search.leave.Given as goal

abbrev pub decreases-loop-member : goal.decreases-loop-member
decreases-loop-member l = goal.left-loop-member l
