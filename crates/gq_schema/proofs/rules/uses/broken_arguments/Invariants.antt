use Rattle.std.proofs.Common.{◌≡◌, drop}
use Rattle.schema_syntax.specs.Tree.{arguments_of}
use Rattle.gq_schema.specs.Scan.{first_in}
use Rattle.gq_schema.specs.Types.{tree_of}
use Rattle.gq_schema.specs.Uses.{broken_argument}
use Rattle.gq_schema.proofs.rules.uses.broken_arguments.Given as goal

abbrev pub invariant-loop-argument : goal.invariant-loop-argument
invariant-loop-argument l = first_in (broken_argument (tree_of l.schema) l.rule) (arguments_of (drop l.argument-index l.arguments)) ≡ first_in (broken_argument (tree_of l.schema) l.rule) (arguments_of l.arguments)
