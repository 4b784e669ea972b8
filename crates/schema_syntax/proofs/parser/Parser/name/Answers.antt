use Rattle.schema_syntax.proofs.Steps.{name_read}
use Rattle.schema_syntax.proofs.parser.Parser.name.Goals as goal

pub returns-clause-reads : goal.returns-clause-reads
returns-clause-reads c = λ room. name_read room _ _ c.in_ok-text.text _ _ _ c.in-Some.ensures c.in_ok-text.ensures.ok
