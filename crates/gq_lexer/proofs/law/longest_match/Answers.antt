use Rattle.gq_lexer.proofs.Longest.{longest}
use Rattle.gq_lexer.proofs.law.longest_match.Goals as goal

pub returns : goal.returns
returns c = λ s t bs rest cs after part e more other. longest s t bs rest cs after part e more other
