use Rattle.std.proofs.Common.{◌++◌, length}
use Rattle.gq_parser.specs.Tree.{directives_of}
use Rattle.gq_parser.specs.Machine.{MaybeDirectives, one}
use Rattle.gq_parser.specs.Grammar.{AreDirectives}
use Rattle.gq_parser.specs.Parsing.{IsFront}
use Rattle.gq_parser.proofs.cursor.Parser.directives.Given as goal

abbrev pub invariant-loop-place : goal.invariant-loop-place
invariant-loop-place l = IsFront (AreDirectives l.constness) (AreDirectives l.constness) (λ others. directives_of l.directives.items ++ others) l.room (one (MaybeDirectives l.constness)) l.room (one (MaybeDirectives l.constness)) l.fn.self l.self

abbrev pub decreases-loop-place : goal.decreases-loop-place
decreases-loop-place l = length l.self
