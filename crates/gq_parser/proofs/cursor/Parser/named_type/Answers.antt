use Rattle.gq_parser.specs.Grammar.{named}
use Rattle.gq_parser.proofs.Views.{type_named}
use Rattle.gq_parser.proofs.Steps.{is_bang, bang_comes}
use Rattle.gq_parser.proofs.cursor.Parser.named_type.Goals as goal

pub returns-clause-reads : goal.returns-clause-reads
returns-clause-reads c = λ room k. (rw (type_named, c.in_ok-name.ensures.ok) (named (is_bang _ _ _ c.eat-non_null.ensures)), λ stack. bang_comes _ room _ _ stack c.eat-non_null.ensures)
