use Rattle.std.proofs.Common.{◌≡◌, ◌+◌, List, drop}
use Rattle.rules_parts.specs.Parts.{VariableUse}
use Rattle.rules_spreads.specs.Graphs.{GraphOf}
use Rattle.rules_untyped.specs.Scans.{with_all}
use Rattle.rules_untyped.specs.AllVariablesUsed.{unused_variables}
use Rattle.rules_untyped.specs.UseRows.{IsUseTable}
use Rattle.rules_spreads.specs.Operations.{operations_in, IsReached}
use Rattle.rules_untyped.proofs.rules.all_variables_used.add_unused_of_span.Given as goal

abbrev pub invariant-loop-number : goal.invariant-loop-number
invariant-loop-number l = (g : GraphOf) (uses : List VariableUse) → IsUseTable uses l.table → IsReached g l.span →
    with_all l.earliest (unused_variables g uses (l.span.first + l.number) (drop (l.span.first + l.number) (operations_in l.span)))
    ≡ with_all l.initial.earliest (unused_variables g uses l.span.first (drop l.span.first (operations_in l.span)))
