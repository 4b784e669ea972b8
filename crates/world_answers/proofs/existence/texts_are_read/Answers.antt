use Rattle.world_answers.proofs.Documents.{text-read}
use Rattle.world_answers.proofs.existence.texts_are_read.Goals as goal

pub returns : goal.returns
returns c = λ text. text-read text
