use Rattle.std.proofs.Common.{◌≡◌, drop}
use Rattle.gq_schema.specs.Scan.{first_in}
use Rattle.schema_syntax.specs.Tree.{names_of}
use Rattle.gq_schema.specs.Reserved.{reserved_name}
use Rattle.gq_schema.proofs.rules.reserved.reserved_in.Given as goal

abbrev pub invariant-loop-name : goal.invariant-loop-name
invariant-loop-name l = first_in reserved_name (names_of (drop l.name-index l.names)) ≡ first_in reserved_name (names_of l.names)
