use Rattle.std.proofs.Common.{◌≡◌, drop, fold, map}
use Rattle.std.specs.Option.{option_map}
use Rattle.gq_parser.specs.Tree.{arguments_of}
use Rattle.rules_parts.specs.Broken.{broken_of, with_broken}
use Rattle.rules_typed.specs.ArgumentNames.{broken_argument}
use Rattle.rules_typed.proofs.rules.argument_names.add_all.Given as goal

abbrev pub invariant-loop-argument : goal.invariant-loop-argument
invariant-loop-argument l =
    fold with_broken (option_map broken_of l.earliest.found) (map broken_argument (arguments_of (drop l.argument-index l.arguments))) ≡ fold with_broken (option_map broken_of l.initial.earliest.found) (map broken_argument (arguments_of l.arguments))
