use Rattle.std.proofs.Common.{length, map}
use Rattle.gq_parser.specs.Word.{tokens_of}
use Rattle.schema_syntax.specs.Tree.{definition_of}
use Rattle.schema_syntax.specs.Parsing.{IsDocumentFront}
use Rattle.schema_syntax.proofs.parser.definitions.Given as goal

abbrev pub invariant-loop-parser : goal.invariant-loop-parser
invariant-loop-parser l = IsDocumentFront 128 (map definition_of l.definitions.items) (tokens_of l.fn.text l.fn.tokens) l.parser

abbrev pub decreases-loop-parser : goal.decreases-loop-parser
decreases-loop-parser l = length l.parser
