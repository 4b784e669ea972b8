use Rattle.world_answers.proofs.Telling.{outcome-there}
use Rattle.world_answers.proofs.existence.requests_are_answered.Goals as goal

pub returns : goal.returns
returns c = λ s d name given has. outcome-there s has d name given
