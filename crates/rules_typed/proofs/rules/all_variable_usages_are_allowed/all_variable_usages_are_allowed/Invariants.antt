use Rattle.std.proofs.Common.{◌≡◌, drop, fold, map}
use Rattle.std.specs.Prelude.{filter_map}
use Rattle.std.specs.Option.{option_map}
use Rattle.gq_parser.specs.Tree.{document_of}
use Rattle.rules_parts.specs.Broken.{broken_of, with_broken, earliest}
use Rattle.rules_parts.specs.Parts.{use_of, parts_in}
use Rattle.rules_spreads.specs.Graphs.{graph_of}
use Rattle.rules_typed.specs.AllVariableUsagesAreAllowed.{forbidden_usage, all_variable_usages_are_allowed}
use Rattle.rules_typed.proofs.rules.all_variable_usages_are_allowed.all_variable_usages_are_allowed.Given as goal

abbrev pub invariant-loop-place : goal.invariant-loop-place
invariant-loop-place l =
    fold with_broken (option_map broken_of l.earliest.found) (filter_map (forbidden_usage (graph_of (parts_in l.parts)) (document_of l.parts.document.now).operations) (map use_of (drop l.place l.parts.uses.items))) ≡ earliest (all_variable_usages_are_allowed (parts_in l.parts))
