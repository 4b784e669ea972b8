use Rattle.std.proofs.Common.{◌++◌, length, true, false}
use Rattle.schema_syntax.specs.Tree.{names_of}
use Rattle.schema_syntax.specs.Machine.{EnumValues, one}
use Rattle.schema_syntax.specs.Grammar.{AreEnumValues}
use Rattle.schema_syntax.specs.Parsing.{IsFront}
use Rattle.schema_syntax.proofs.parser.Parser.enum_values.Given as goal

abbrev pub invariant-loop-values : goal.invariant-loop-values
invariant-loop-values l = IsFront (AreEnumValues true) (AreEnumValues false) (λ others. names_of l.values.items ++ others) 127 (one (EnumValues false)) 127 (one (EnumValues true)) l.fn.self l.self

abbrev pub decreases-loop-values : goal.decreases-loop-values
decreases-loop-values l = length l.self
