use Rattle.std.proofs.Common.{◌≡◌, drop}
use Rattle.std.specs.List.{list_all}
use Rattle.schema_syntax.specs.Tree.{arguments_of}
use Rattle.gq_schema.specs.Implements.{has_argument}
use Rattle.gq_schema.proofs.rules.implements.has_arguments.Given as goal

abbrev pub invariant-loop-argument : goal.invariant-loop-argument
invariant-loop-argument l = list_all (has_argument (arguments_of l.own.arguments.now)) (arguments_of (drop l.argument-index l.wanted)) ≡ list_all (has_argument (arguments_of l.own.arguments.now)) (arguments_of l.wanted)
