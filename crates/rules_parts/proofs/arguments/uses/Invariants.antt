use Rattle.std.proofs.Common.{◌≡◌, ◌++◌, drop, map}
use Rattle.rules_parts.specs.Parts.{argument_part_of, use_of}
use Rattle.rules_parts.specs.Listing.{uses_from}
use Rattle.rules_parts.proofs.arguments.uses.Given as goal

abbrev pub invariant-loop-argument : goal.invariant-loop-argument
invariant-loop-argument l =
    map use_of l.uses.items ++ uses_from (map argument_part_of (drop l.argument-index l.arguments))
    ≡ uses_from (map argument_part_of l.arguments)
