use Rattle.std.proofs.Common.{◌≡◌, map, drop}
use Rattle.std.specs.List.{filter}
use Rattle.gq_parser.specs.Tree.{fragment_of}
use Rattle.rules_parts.specs.Parts.{spread_part_of}
use Rattle.rules_parts.specs.Broken.{earliest}
use Rattle.rules_untyped.specs.Scans.{with_all}
use Rattle.rules_untyped.specs.Named.{named_fragment}
use Rattle.rules_untyped.specs.FragmentsMustBeUsed.{is_unused}
use Rattle.rules_untyped.proofs.rules.fragments_must_be_used.fragments_must_be_used.Given as goal

abbrev pub invariant-loop-fragment : goal.invariant-loop-fragment
invariant-loop-fragment l =
    with_all l.earliest (map named_fragment (filter (is_unused (map spread_part_of l.parts.spreads.items)) (map fragment_of (drop l.fragment-index l.fragment-items))))
    ≡ earliest (map named_fragment (filter (is_unused (map spread_part_of l.parts.spreads.items)) (map fragment_of l.fragment-items)))
