use Rattle.std.proofs.Common.{◌≡◌, drop}
use Rattle.schema_syntax.specs.Tree.{arguments_of}
use Rattle.gq_schema.specs.Implements.{argument_in}
use Rattle.fault_sentences.proofs.line.has_argument.Given as goal

abbrev pub invariant-loop-argument : goal.invariant-loop-argument
invariant-loop-argument l =
    argument_in (arguments_of (drop l.argument-index l.argument-items)) l.name ≡ argument_in (arguments_of l.argument-items) l.name
