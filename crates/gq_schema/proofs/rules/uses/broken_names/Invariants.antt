use Rattle.std.proofs.Common.{◌≡◌, drop}
use Rattle.schema_syntax.specs.Tree.{names_of}
use Rattle.gq_schema.specs.Scan.{first_in}
use Rattle.gq_schema.specs.Types.{tree_of}
use Rattle.gq_schema.specs.Uses.{broken_use}
use Rattle.gq_schema.proofs.rules.uses.broken_names.Given as goal

abbrev pub invariant-loop-name : goal.invariant-loop-name
invariant-loop-name l = first_in (broken_use (tree_of l.schema) l.rule l.role) (names_of (drop l.name-index l.names)) ≡ first_in (broken_use (tree_of l.schema) l.rule l.role) (names_of l.names)
