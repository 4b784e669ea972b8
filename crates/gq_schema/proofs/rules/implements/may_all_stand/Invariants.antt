use Rattle.std.proofs.Common.{◌≡◌, drop}
use Rattle.std.specs.List.{list_all}
use Rattle.schema_syntax.specs.Tree.{arguments_of}
use Rattle.gq_schema.specs.Implements.{may_stand}
use Rattle.gq_schema.proofs.rules.implements.may_all_stand.Given as goal

abbrev pub invariant-loop-argument : goal.invariant-loop-argument
invariant-loop-argument l = list_all (may_stand (arguments_of l.wanted.arguments.now)) (arguments_of (drop l.argument-index l.arguments)) ≡ list_all (may_stand (arguments_of l.wanted.arguments.now)) (arguments_of l.arguments)
