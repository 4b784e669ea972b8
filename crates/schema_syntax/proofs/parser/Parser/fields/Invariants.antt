use Rattle.std.proofs.Common.{◌++◌, length, true, false}
use Rattle.schema_syntax.specs.Tree.{fields_of}
use Rattle.schema_syntax.specs.Machine.{Fields, one}
use Rattle.schema_syntax.specs.Grammar.{AreFields}
use Rattle.schema_syntax.specs.Parsing.{IsFront}
use Rattle.schema_syntax.proofs.parser.Parser.fields.Given as goal

abbrev pub invariant-loop-fields : goal.invariant-loop-fields
invariant-loop-fields l = IsFront (AreFields true) (AreFields false) (λ others. fields_of l.fields.items ++ others) 127 (one (Fields false)) 127 (one (Fields true)) l.fn.self l.self

abbrev pub decreases-loop-fields : goal.decreases-loop-fields
decreases-loop-fields l = length l.self
