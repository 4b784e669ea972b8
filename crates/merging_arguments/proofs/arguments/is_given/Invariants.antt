use Rattle.std.proofs.Common.{◌≡◌, drop}
use Rattle.gq_parser.specs.Tree.{argument_of, arguments_of}
use Rattle.merging_arguments.specs.Same.{is_given}
use Rattle.merging_arguments.proofs.arguments.is_given.Given as goal

abbrev pub invariant-loop-other : goal.invariant-loop-other
invariant-loop-other l = is_given (arguments_of (drop l.other-index l.arguments)) (argument_of l.argument) ≡ is_given (arguments_of l.arguments) (argument_of l.argument)
