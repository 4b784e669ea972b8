use Rattle.std.proofs.Common.{◌≡◌, drop}
use Rattle.gq_parser.specs.Tree.{arguments_of}
use Rattle.merging_arguments.specs.Same.{are_given}
use Rattle.merging_arguments.proofs.arguments.are_given.Given as goal

abbrev pub invariant-loop-argument : goal.invariant-loop-argument
invariant-loop-argument l = are_given (arguments_of (drop l.argument-index l.arguments)) (arguments_of l.others) ≡ are_given (arguments_of l.arguments) (arguments_of l.others)
