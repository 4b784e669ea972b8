use Rattle.std.proofs.Common.{sym}
use Rattle.schema_syntax.proofs.Bodies.{interfaces_read, no_interfaces_read}
use Rattle.schema_syntax.proofs.parser.Parser.interfaces.Goals as goal

pub returns-in_default-clause-reads : goal.returns-in_default-clause-reads
returns-in_default-clause-reads c = no_interfaces_read _ _ _ _ c.new.ensures.items c.in_default.ensures.0 c.in_ok-expect.ensures

pub returns-clause-reads : goal.returns-clause-reads
returns-clause-reads c = interfaces_read _ _ _ _ _ _ _ _ c.in-Some.ensures (sym c.in-Implements.ensures) c.in_ok-interfaces.ensures.reads c.in_ok-expect-2.ensures
