use Rattle.std.proofs.Common.{◌≡◌, drop}
use Rattle.gq_parser.specs.Tree.{arguments_of}
use Rattle.plan_program.specs.Chosen.{given_to}
use Rattle.plan_program.proofs.chosen.given_to.Given as goal

abbrev pub invariant-loop-argument : goal.invariant-loop-argument
invariant-loop-argument l = given_to (arguments_of (drop l.argument-index l.given)) l.name ≡ given_to (arguments_of l.given) l.name
