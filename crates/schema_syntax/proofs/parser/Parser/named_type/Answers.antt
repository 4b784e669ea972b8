use Rattle.schema_syntax.proofs.Steps.{named_type_read}
use Rattle.schema_syntax.proofs.parser.Parser.named_type.Goals as goal

pub returns-clause-reads : goal.returns-clause-reads
returns-clause-reads c = λ room. rw c.from.ensures (named_type_read room _ _ _ _ _ _ (c.in_ok-text.ensures.reads room) c.eat-non_null.ensures)
