use Rattle.std.proofs.Common.{sym, suc}
use Rattle.schema_syntax.proofs.Steps.{no_deprecated_read, deprecated_read}
use Rattle.schema_syntax.proofs.parser.Parser.skip_deprecated.Goals as goal

pub returns-in_default-clause-reads : goal.returns-in_default-clause-reads
returns-in_default-clause-reads c = λ room. no_deprecated_read _ _ _ c.in_default.ensures

pub returns-clause-reads : goal.returns-clause-reads
returns-clause-reads c = λ room. deprecated_read (suc room) _ _ _ _ _ _ _ _ c.reason.result c.in-Some.ensures c.in-Some-word.ensures (sym c.in-Deprecated.ensures) (c.reason.ensures.reads room)
