use Rattle.std.proofs.Common.{◌≡◌, ◌++◌, drop, map}
use Rattle.std.specs.Option.{option_map, option_copied}
use Rattle.gq_parser.specs.Tree.{arguments_of}
use Rattle.schema_syntax.specs.Tree as schema
use Rattle.rules_parts.specs.Parts.{argument_part_of}
use Rattle.rules_parts.specs.Listing.{argument_with}
use Rattle.rules_parts.proofs.arguments.add_arguments.Given as goal

abbrev pub invariant-loop-argument : goal.invariant-loop-argument
invariant-loop-argument l =
    let part = argument_with l.list.owner (option_map schema.arguments_of (option_copied l.list.definitions)) in
    map argument_part_of l.arguments.items ++ map part (arguments_of (drop l.argument-index l.list.arguments.now))
    ≡ map argument_part_of l.initial.arguments.items ++ map part (arguments_of l.list.arguments.now)
