use Rattle.std.proofs.Common.{◌≡◌, drop}
use Rattle.schema_syntax.specs.Tree.{names_of}
use Rattle.gq_schema.specs.Scan.{first_in}
use Rattle.gq_schema.specs.Types.{tree_of}
use Rattle.gq_schema.specs.Implements.{bad_interface}
use Rattle.gq_schema.proofs.rules.implements.bad_interface.Given as goal

abbrev pub invariant-loop-interface : goal.invariant-loop-interface
invariant-loop-interface l = first_in (bad_interface (tree_of l.schema) l.ty) (names_of (drop l.interface-index l.interfaces)) ≡ first_in (bad_interface (tree_of l.schema) l.ty) (names_of l.interfaces)
