use Rattle.std.proofs.Common.{◌++◌, length, ◌-◌}
use Rattle.gq_parser.specs.Tree.{variables_of}
use Rattle.gq_parser.specs.Machine.{MaybeVariables, MoreVariables, one}
use Rattle.gq_parser.specs.Grammar.{AreVariables, AreOptionalVariables}
use Rattle.gq_parser.specs.Parsing.{IsFront}
use Rattle.gq_parser.proofs.cursor.Parser.variables.Given as goal

abbrev pub invariant-loop-variables : goal.invariant-loop-variables
invariant-loop-variables l =
    IsFront AreVariables AreOptionalVariables (λ others. variables_of l.variables.items ++ others) l.room (one MaybeVariables) (l.room - 1) (one MoreVariables) l.fn.self l.self

abbrev pub decreases-loop-variables : goal.decreases-loop-variables
decreases-loop-variables l = length l.self
