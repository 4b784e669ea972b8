use Rattle.gq_lexer.proofs.StringTokens.{str_value, str_has_value, block_by_pieces}
use Rattle.gq_lexer.proofs.law.values_by_pieces.Goals as goal

pub returns : goal.returns
returns c = record { string = str_value; has_value = str_has_value; block = block_by_pieces }
