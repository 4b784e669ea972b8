use Rattle.std.proofs.Common.{◌++◌, length, ◌-◌}
use Rattle.gq_parser.specs.Tree.{arguments_of}
use Rattle.gq_parser.specs.Machine.{MaybeArguments, MoreArguments, one}
use Rattle.gq_parser.specs.Grammar.{AreArguments, AreOptionalArguments}
use Rattle.gq_parser.specs.Parsing.{IsFront}
use Rattle.gq_parser.proofs.cursor.Parser.arguments.Given as goal

abbrev pub invariant-loop-constness : goal.invariant-loop-constness
invariant-loop-constness l =
    IsFront (AreArguments l.constness) (AreOptionalArguments l.constness) (λ others. arguments_of l.arguments.items ++ others) l.room (one (MaybeArguments l.constness)) (l.room - 1) (one (MoreArguments l.constness)) l.fn.self l.self

abbrev pub decreases-loop-constness : goal.decreases-loop-constness
decreases-loop-constness l = length l.self
