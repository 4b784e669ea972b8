use Rattle.std.proofs.Common.{◌++◌, length, true}
use Rattle.schema_syntax.specs.Tree.{arguments_of}
use Rattle.schema_syntax.specs.Machine.{MaybeArguments, Arguments, one}
use Rattle.schema_syntax.specs.Grammar.{AreArguments, AreOptionalArguments}
use Rattle.schema_syntax.specs.Parsing.{IsFront}
use Rattle.schema_syntax.proofs.parser.Parser.arguments.Given as goal

abbrev pub invariant-loop-arguments : goal.invariant-loop-arguments
invariant-loop-arguments l = IsFront (AreArguments true) AreOptionalArguments (λ others. arguments_of l.arguments.items ++ others) 127 (one MaybeArguments) 126 (one (Arguments true)) l.fn.self l.self

abbrev pub decreases-loop-arguments : goal.decreases-loop-arguments
decreases-loop-arguments l = length l.self
