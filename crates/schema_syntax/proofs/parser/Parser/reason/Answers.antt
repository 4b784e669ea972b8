use Rattle.std.proofs.Common.{sym}
use Rattle.schema_syntax.proofs.Steps.{no_reason_read, reason_read}
use Rattle.schema_syntax.proofs.parser.Parser.reason.Goals as goal

pub returns-then-not-eat-clause-reads : goal.returns-then-not-eat-clause-reads
returns-then-not-eat-clause-reads c = λ room. no_reason_read _ _ _ c.if-not-eat.ensures

pub returns-clause-reads : goal.returns-clause-reads
returns-clause-reads c = λ room. reason_read room _ _ _ _ _ _ _ _ _ c.expect-2.result c.if-not-eat.ensures c.in-Some.ensures (sym c.in-Reason.ensures) c.in_ok-expect.ensures c.if-not-description.ensures c.expect-2.ensures
