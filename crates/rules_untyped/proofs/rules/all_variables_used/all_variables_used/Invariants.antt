use Rattle.std.proofs.Common.{◌≡◌, ◌-◌, length, map, drop}
use Rattle.gq_parser.specs.Tree.{operation_of}
use Rattle.rules_parts.specs.Broken.{earliest}
use Rattle.rules_parts.specs.Parts.{use_of}
use Rattle.rules_untyped.specs.Scans.{with_all}
use Rattle.rules_untyped.specs.AllVariablesUsed.{unused_variables}
use Rattle.rules_untyped.proofs.rules.all_variables_used.all_variables_used.Given as goal

abbrev pub invariant-loop-first : goal.invariant-loop-first
invariant-loop-first l =
    with_all l.earliest (unused_variables l.graph (map use_of l.uses.parts.now.uses.items) l.first (drop l.first (map operation_of l.operations)))
    ≡ earliest (unused_variables l.graph (map use_of l.uses.parts.now.uses.items) 0 (map operation_of l.operations))

abbrev pub decreases-loop-first : goal.decreases-loop-first
decreases-loop-first l = length l.operations - l.first
