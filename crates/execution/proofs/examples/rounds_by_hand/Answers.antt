use Rattle.std.proofs.Common.{refl}
use Rattle.std.specs.Fmt.{digits}
use Rattle.execution.proofs.examples.rounds_by_hand.Goals as goal

pub returns-clause-folded : goal.returns-clause-folded
unfolding digits
returns-clause-folded c = refl
