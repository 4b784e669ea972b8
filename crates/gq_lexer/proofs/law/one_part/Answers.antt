use Rattle.gq_lexer.proofs.Unique.{same_part}
use Rattle.gq_lexer.proofs.law.one_part.Goals as goal

pub returns : goal.returns
returns c = λ s t bs cs rest after p q e. same_part s t bs cs rest after p q e
