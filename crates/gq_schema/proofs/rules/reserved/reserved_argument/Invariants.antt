use Rattle.std.proofs.Common.{◌≡◌, drop}
use Rattle.gq_schema.specs.Scan.{first_in}
use Rattle.schema_syntax.specs.Tree.{arguments_of}
use Rattle.gq_schema.specs.Reserved.{reserved_argument}
use Rattle.gq_schema.proofs.rules.reserved.reserved_argument.Given as goal

abbrev pub invariant-loop-argument : goal.invariant-loop-argument
invariant-loop-argument l = first_in reserved_argument (arguments_of (drop l.argument-index l.arguments)) ≡ first_in reserved_argument (arguments_of l.arguments)
