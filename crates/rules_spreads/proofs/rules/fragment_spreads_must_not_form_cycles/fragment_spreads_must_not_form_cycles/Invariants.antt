use Rattle.std.proofs.Common.{◌≡◌, drop, fold, map}
use Rattle.std.specs.Option.{option_map}
use Rattle.gq_parser.specs.Tree.{fragment_of}
use Rattle.rules_parts.specs.Broken.{broken_of, with_broken, earliest}
use Rattle.rules_parts.specs.Parts.{parts_in}
use Rattle.rules_spreads.specs.Rules.{cycles_among, fragment_spreads_must_not_form_cycles}
use Rattle.rules_spreads.proofs.rules.fragment_spreads_must_not_form_cycles.fragment_spreads_must_not_form_cycles.Given as goal

abbrev pub invariant-loop-i : goal.invariant-loop-i
invariant-loop-i l = fold with_broken (option_map broken_of l.earliest.found) (cycles_among l.graph l.i (map fragment_of (drop l.i l.parts.document.now.fragments.items))) ≡ earliest (fragment_spreads_must_not_form_cycles (parts_in l.parts))
