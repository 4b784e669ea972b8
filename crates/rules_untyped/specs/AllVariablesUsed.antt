-- All Variables Used (October 2021, section 5.8.4): each operation reaches a use of each of its variables.
use Rattle.std.specs.Prelude.{ℕ, ◌+◌, Bool, ◌&&◌, not, List, [], ◌∷◌, ◌++◌, map, filter, bytes_eq}
use Rattle.std.specs.List.{list_any}
use Rattle.gq_parser.specs.Tree.{Operation, VariableDefinition}
use Rattle.rules_parts.specs.Broken.{BrokenOf}
use Rattle.rules_parts.specs.Parts.{PartsOf, VariableUse}
use Rattle.rules_spreads.specs.Graphs.{GraphOf, graph_of}
use Rattle.rules_untyped.specs.Named.{named_variable}
use Rattle.rules_untyped.specs.VariableReach.{is_within}

-- the operation of number i reaches the use, which is one of this variable
abbrev pub uses_there : GraphOf → ℕ → List ℕ → VariableUse → Bool
uses_there g i name u = is_within g i u.owner && bytes_eq name u.name

-- the operation of number i reaches no use of the variable
abbrev pub is_unused : GraphOf → List VariableUse → ℕ → VariableDefinition → Bool
is_unused g uses i v = not (list_any (uses_there g i v.name) uses)

-- the variables of these operations whose uses they don't reach, where the first has the number i
abbrev pub unused_variables : GraphOf → List VariableUse → ℕ → List Operation → List BrokenOf
unused_variables g uses i [] = []
unused_variables g uses i (o ∷ os) = map named_variable (filter (is_unused g uses i) o.variables)
    ++ unused_variables g uses (i + 1) os

abbrev pub all_variables_used : PartsOf → List BrokenOf
all_variables_used p = unused_variables (graph_of p) p.uses 0 p.document.operations
