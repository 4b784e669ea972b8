use Rattle.gq_lexer.proofs.Reading.{front_inside, front_accepts}
use Rattle.gq_lexer.proofs.lexer.lex_front.Goals as goal

pub returns-clause-inside : goal.returns-clause-inside
returns-clause-inside c = front_inside c.args.text.now c.front_tokens.result c.utf8.text c.front_tokens.ensures

pub returns-clause-accepts : goal.returns-clause-accepts
returns-clause-accepts c = λ ts t. front_accepts c.args.text.now c.front_tokens.result c.front_tokens.ensures ts t
