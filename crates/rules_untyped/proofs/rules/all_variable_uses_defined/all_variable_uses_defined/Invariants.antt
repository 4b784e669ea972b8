use Rattle.std.proofs.Common.{◌≡◌, map, drop}
use Rattle.std.specs.List.{filter}
use Rattle.gq_parser.specs.Tree.{document_of}
use Rattle.rules_parts.specs.Broken.{earliest}
use Rattle.rules_parts.specs.Parts.{use_of}
use Rattle.rules_untyped.specs.Scans.{with_all}
use Rattle.rules_untyped.specs.VariableReach.{named_use}
use Rattle.rules_untyped.specs.AllVariableUsesDefined.{one_lacks}
use Rattle.rules_untyped.proofs.rules.all_variable_uses_defined.all_variable_uses_defined.Given as goal

abbrev pub invariant-loop-place : goal.invariant-loop-place
invariant-loop-place l =
    with_all l.earliest (map named_use (filter (one_lacks l.graph 0 (document_of l.uses.parts.now.document.now).operations) (map use_of (drop l.place l.part-items))))
    ≡ earliest (map named_use (filter (one_lacks l.graph 0 (document_of l.uses.parts.now.document.now).operations) (map use_of l.part-items)))
