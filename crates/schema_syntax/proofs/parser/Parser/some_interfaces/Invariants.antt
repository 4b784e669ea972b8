use Rattle.std.proofs.Common.{◌++◌, length}
use Rattle.schema_syntax.specs.Tree.{names_of}
use Rattle.schema_syntax.specs.Machine.{FirstInterface, MoreInterfaces, one}
use Rattle.schema_syntax.specs.Grammar.{AreMoreInterfaces}
use Rattle.schema_syntax.specs.Parsing.{IsFront, AreSomeInterfaces}
use Rattle.schema_syntax.proofs.parser.Parser.some_interfaces.Given as goal

abbrev pub invariant-loop-interfaces : goal.invariant-loop-interfaces
invariant-loop-interfaces l = IsFront AreMoreInterfaces AreSomeInterfaces (λ others. names_of l.interfaces.items ++ others) 128 (one FirstInterface) 128 (one MoreInterfaces) l.fn.self l.self

abbrev pub decreases-loop-interfaces : goal.decreases-loop-interfaces
decreases-loop-interfaces l = length l.self
