use Rattle.world_answers.proofs.Verdicts.{verdict-there}
use Rattle.world_answers.proofs.existence.documents_have_verdicts.Goals as goal

pub returns : goal.returns
returns c = λ defs d. verdict-there defs d
