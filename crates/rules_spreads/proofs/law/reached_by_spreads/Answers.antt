use Rattle.std.proofs.Common.{length}
use Rattle.rules_spreads.proofs.ReachLaws.{through_sound, reaches_complete}
use Rattle.rules_spreads.proofs.law.reached_by_spreads.Goals as goal

pub returns : goal.returns
returns c = λ g o j known. (through_sound (length g.fragments) g o j, reaches_complete g o j known)
