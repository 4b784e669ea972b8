use Rattle.std.proofs.Common.{◌++◌, ◌∷◌, length}
use Rattle.schema_syntax.specs.Tree.{names_of}
use Rattle.schema_syntax.specs.Machine.{A, ATypeName, MaybePipe, MoreMembers, one}
use Rattle.schema_syntax.specs.Grammar.{AreMoreMembers}
use Rattle.schema_syntax.specs.Parsing.{IsFront, AreMembersRead}
use Rattle.schema_syntax.proofs.parser.Parser.members.Given as goal

abbrev pub invariant-loop-members : goal.invariant-loop-members
invariant-loop-members l = IsFront AreMoreMembers AreMembersRead (λ others. names_of l.members.items ++ others) 128 (MaybePipe ∷ A ATypeName ∷ one MoreMembers) 128 (one MoreMembers) l.fn.self l.self

abbrev pub decreases-loop-members : goal.decreases-loop-members
decreases-loop-members l = length l.self
