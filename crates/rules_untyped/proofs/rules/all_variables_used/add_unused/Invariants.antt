use Rattle.std.proofs.Common.{◌≡◌, ℕ, List, Bool, not, map, drop, bytes_eq}
use Rattle.std.specs.List.{filter}
use Rattle.std.specs.HashMap.{get_by}
use Rattle.std.specs.Borrow.{Bor}
use Rattle.gq_parser.specs.Tree.{VariableDefinition, variable_of}
use Rattle.rules_untyped.specs.Named.{named_variable}
use Rattle.rules_untyped.specs.Scans.{with_all}
use Rattle.rules_untyped.specs.VariableUseIndex.{has_if}
use Rattle.rules_untyped.proofs.rules.all_variables_used.add_unused.Given as goal

abbrev pub invariant-loop-variable : goal.invariant-loop-variable
invariant-loop-variable l =
    let is_unused : VariableDefinition → Bool = λ v. not (has_if l.used l.number (get_by (λ (k : Bor (List ℕ)). bytes_eq v.name k.now) l.names)) in
    with_all l.earliest (map named_variable (filter is_unused (map variable_of (drop l.variable-index l.variable-items))))
    ≡ with_all l.initial.earliest (map named_variable (filter is_unused (map variable_of l.variable-items)))
