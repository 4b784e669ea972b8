use Rattle.std.proofs.Common.{◌≡◌, drop, fold, map}
use Rattle.std.specs.List.{filter_map}
use Rattle.std.specs.Option.{option_map}
use Rattle.gq_parser.specs.Tree.{operation_of}
use Rattle.rules_parts.specs.Broken.{broken_of, with_broken, earliest}
use Rattle.rules_parts.specs.Parts.{parts_in}
use Rattle.rules_spreads.specs.Rules.{deep_operation, too_deep}
use Rattle.rules_spreads.proofs.levels.too_deep.Given as goal

abbrev pub invariant-loop-operation : goal.invariant-loop-operation
invariant-loop-operation l =
    fold with_broken (option_map broken_of l.earliest.found) (filter_map (deep_operation (parts_in l.parts).document.fragments) (map operation_of (drop l.operation-index l.parts.document.now.operations.items)))
    ≡ earliest (too_deep (parts_in l.parts))
