use Rattle.schema_syntax.proofs.Steps.{type_name_read}
use Rattle.schema_syntax.proofs.parser.Parser.type_name.Goals as goal

pub returns-clause-reads : goal.returns-clause-reads
returns-clause-reads c = λ room. type_name_read room _ _ c.in_ok-text.text _ _ _ c.in-Some.ensures c.in_ok-text.ensures.ok c.if-not-is_served_name.ensures
