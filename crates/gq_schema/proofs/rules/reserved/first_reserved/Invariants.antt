use Rattle.std.proofs.Common.{◌≡◌, drop}
use Rattle.gq_schema.specs.Scan.{first_in}
use Rattle.gq_schema.specs.Types.{tree_of}
use Rattle.gq_schema.specs.Reserved.{reserved_definition}
use Rattle.gq_schema.proofs.rules.reserved.first_reserved.Given as goal

abbrev pub invariant-loop-definition : goal.invariant-loop-definition
invariant-loop-definition l = first_in reserved_definition (tree_of (drop l.definition-index l.definitions)) ≡ first_in reserved_definition (tree_of l.definitions)
