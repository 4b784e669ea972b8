use Rattle.std.proofs.Common.{◌≡◌, drop}
use Rattle.schema_syntax.specs.Tree.{arguments_of}
use Rattle.gq_schema.specs.Scan.{first_in}
use Rattle.gq_schema.specs.Types.{tree_of}
use Rattle.gq_schema.specs.Defaults.{bad_default}
use Rattle.gq_schema.proofs.rules.defaults.bad_default_among.Given as goal

abbrev pub invariant-loop-argument : goal.invariant-loop-argument
invariant-loop-argument l = first_in (bad_default (tree_of l.schema)) (arguments_of (drop l.argument-index l.arguments)) ≡ first_in (bad_default (tree_of l.schema)) (arguments_of l.arguments)
