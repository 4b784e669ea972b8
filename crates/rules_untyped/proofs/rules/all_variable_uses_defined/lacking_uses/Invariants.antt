use Rattle.std.proofs.Common.{◌≡◌, ◌-◌, ◌<◌, ℕ, List, length, map}
use Rattle.gq_parser.specs.Tree.{operation_of}
use Rattle.rules_parts.specs.Parts.{VariableUse}
use Rattle.rules_untyped.specs.AllVariableUsesDefined.{one_lacks}
use Rattle.rules_untyped.specs.UseRows.{use_at, IsUseTable}
use Rattle.rules_untyped.specs.SpanSteps.{is_noted_or_lacks}
use Rattle.rules_untyped.proofs.rules.all_variable_uses_defined.lacking_uses.Given as goal

abbrev pub invariant-loop-first : goal.invariant-loop-first
invariant-loop-first l = (uses : List VariableUse) → IsUseTable uses l.table → (k : ℕ) → k < length uses →
    is_noted_or_lacks l.graph uses l.table (map operation_of l.operations) l.lacking.items l.first k
    ≡ one_lacks l.graph 0 (map operation_of l.operations) (use_at uses k)

abbrev pub decreases-loop-first : goal.decreases-loop-first
decreases-loop-first l = length l.operations - l.first
