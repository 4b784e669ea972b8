use Rattle.std.proofs.Common.{◌≡◌, ◌||◌, ℕ, List, map, drop}
use Rattle.std.specs.List.{list_any}
use Rattle.rules_parts.specs.Parts.{spread_part_of}
use Rattle.rules_untyped.specs.Scans.{has_text}
use Rattle.rules_untyped.specs.FragmentsMustBeUsed.{spreads}
use Rattle.rules_untyped.proofs.rules.fragments_must_be_used.spread_names.Given as goal

abbrev pub invariant-loop-part : goal.invariant-loop-part
invariant-loop-part l =
    (q : List ℕ) → (has_text l.names q || list_any (spreads q) (map spread_part_of (drop l.part-index l.part-items)))
    ≡ list_any (spreads q) (map spread_part_of l.part-items)
