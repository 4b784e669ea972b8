use Rattle.std.proofs.Common.{◌≡◌, map, drop}
use Rattle.std.specs.List.{filter}
use Rattle.rules_parts.specs.Parts.{spread_part_of}
use Rattle.rules_parts.specs.Broken.{earliest}
use Rattle.rules_untyped.specs.Scans.{with_all}
use Rattle.rules_untyped.specs.FragmentSpreadTargetDefined.{is_undefined, named_spread}
use Rattle.rules_untyped.proofs.rules.fragment_spread_target_defined.fragment_spread_target_defined.Given as goal

abbrev pub invariant-loop-part : goal.invariant-loop-part
invariant-loop-part l =
    with_all l.earliest (map named_spread (filter is_undefined (map spread_part_of (drop l.part-index l.part-items))))
    ≡ earliest (map named_spread (filter is_undefined (map spread_part_of l.part-items)))
