use Rattle.std.proofs.Common.{◌≡◌, ℕ, List, drop, map}
use Rattle.gq_parser.specs.Tree.{fragment_of}
use Rattle.gq_schema.specs.Scan.{or_else}
use Rattle.gq_schema.specs.Places.{place_from}
use Rattle.rules_parts.specs.Fragments.{is_fragment, number_at}
use Rattle.rules_parts.proofs.fragments.fragment_numbers.Given as goal

abbrev pub invariant-loop-i : goal.invariant-loop-i
invariant-loop-i l = (q : List ℕ) → or_else (number_at l.numbers q) (place_from l.i (is_fragment q) (map fragment_of (drop l.i l.fragments))) ≡ place_from 0 (is_fragment q) (map fragment_of l.fragments)
