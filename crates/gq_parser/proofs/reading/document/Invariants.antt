use Rattle.gq_parser.proofs.Documents.{IsRead}
use Rattle.std.proofs.Common.{length}
use Rattle.gq_parser.proofs.reading.document.Given as goal

abbrev pub invariant-definitions : goal.invariant-definitions
invariant-definitions l = IsRead l.document l.fn.parser l.parser

abbrev pub decreases-definitions : goal.decreases-definitions
decreases-definitions l = length l.parser
