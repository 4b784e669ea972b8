use Rattle.world_answers.proofs.Lines.{line-there}
use Rattle.world_answers.proofs.existence.lines_are_answered.Goals as goal

pub returns : goal.returns
returns c = λ s line has short. line-there s has line short
