-- Definitions of which variables an operation has, and which uses of variables it reaches: those in itself, and those in the
-- fragments that it reaches by spreads.
use Rattle.std.specs.Prelude.{ℕ, ◌==◌, Bool, List, bytes_eq}
use Rattle.std.specs.List.{list_any}
use Rattle.gq_parser.specs.Tree.{Operation, VariableDefinition}
use Rattle.rules_parts.specs.declared.part.Owner.{Owner}
use Rattle.rules_parts.specs.declared.part.Owner.TheVariants as owner
use Rattle.rules_parts.specs.Broken.{BrokenOf}
use Rattle.rules_parts.specs.Parts.{VariableUse}
use Rattle.rules_spreads.specs.Graphs.{GraphOf}
use Rattle.rules_spreads.specs.Reach.{reaches}
use Rattle.rules_untyped.specs.Named.{named}

-- tells whether the operation of number i reaches what stands there
abbrev pub is_within : GraphOf → ℕ → Owner → Bool
is_within g i (owner.Operation k) = i == k
is_within g i (owner.Fragment j) = reaches g (owner.Operation i) j

abbrev pub is_variable : List ℕ → VariableDefinition → Bool
is_variable name v = bytes_eq v.name name

-- the operation defines a variable of this name
abbrev pub defines : List ℕ → Operation → Bool
defines name o = list_any (is_variable name) o.variables

abbrev pub named_use : VariableUse → BrokenOf
named_use u = named u.name u.place
