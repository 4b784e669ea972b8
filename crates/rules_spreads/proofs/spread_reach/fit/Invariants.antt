use Rattle.std.proofs.Common.{◌-◌, vec_len}
use Rattle.rules_spreads.specs.SpreadReaches.{AreClear}
use Rattle.rules_spreads.proofs.spread_reach.fit.Given as goal

abbrev pub invariant-loop-marks : goal.invariant-loop-marks
invariant-loop-marks l = AreClear l.marks.items

abbrev pub decreases-loop-marks : goal.decreases-loop-marks
decreases-loop-marks l = l.count - vec_len l.marks
