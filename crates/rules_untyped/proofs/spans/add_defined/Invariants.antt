use Rattle.std.proofs.Common.{◌≡◌, ℕ, List, ◌||◌, map, drop, eqb, bytes_eq}
use Rattle.std.specs.Prelude.{◌&&◌}
use Rattle.std.specs.List.{list_any}
use Rattle.std.specs.HashMap.{get_by}
use Rattle.std.specs.Borrow.{Bor}
use Rattle.gq_parser.specs.Tree.{variable_of}
use Rattle.rules_spreads.specs.OperationSpans.{has, set_at}
use Rattle.rules_untyped.specs.VariableUseIndex.{is_numbered}
use Rattle.rules_untyped.proofs.spans.add_defined.Given as goal

abbrev pub invariant-loop-variable : goal.invariant-loop-variable
invariant-loop-variable l = (n m : ℕ) →
    let numbered = is_numbered (λ (q : List ℕ). get_by (λ (k : Bor (List ℕ)). bytes_eq q k.now) l.names) n in
    ((eqb m l.number && list_any numbered (map variable_of (drop l.variable-index l.variable-items))) || has (set_at l.sets.items n) m)
    ≡ ((eqb m l.number && list_any numbered (map variable_of l.variable-items)) || has (set_at l.initial.sets.items n) m)
