-- All Variable Uses Defined (October 2021, section 5.8.3): each operation defines the variables whose uses it reaches.
use Rattle.std.specs.Prelude.{ℕ, ◌+◌, Bool, false, ◌||◌, ◌&&◌, not, List, [], ◌∷◌, map, filter}
use Rattle.gq_parser.specs.Tree.{Operation}
use Rattle.rules_parts.specs.Broken.{BrokenOf}
use Rattle.rules_parts.specs.Parts.{PartsOf, VariableUse}
use Rattle.rules_spreads.specs.Graphs.{GraphOf, graph_of}
use Rattle.rules_untyped.specs.VariableReach.{is_within, defines, named_use}

-- the operation of number i reaches the use, and doesn't define its variable
abbrev pub lacks : GraphOf → ℕ → Operation → VariableUse → Bool
lacks g i o u = is_within g i u.owner && not (defines u.name o)

-- one of these operations does so, where the first has the number i
abbrev pub one_lacks : GraphOf → ℕ → List Operation → VariableUse → Bool
one_lacks g i [] u = false
one_lacks g i (o ∷ os) u = lacks g i o u || one_lacks g (i + 1) os u

-- the uses that an operation reaches which doesn't define their variables
abbrev pub all_variable_uses_defined : PartsOf → List BrokenOf
all_variable_uses_defined p =
    map named_use (filter (one_lacks (graph_of p) 0 p.document.operations) p.uses)
