use Rattle.rules_spreads.proofs.ReacherLaws.{Follows}
use Rattle.rules_spreads.proofs.reaching.follow.Given as goal

abbrev pub invariant-loop-edge : goal.invariant-loop-edge
invariant-loop-edge l = Follows l.edges l.edge-index l.initial.sets.items l.sets.items l.has_grown
