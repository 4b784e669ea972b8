-- All Variable Usages Are Allowed (section 5.8.5).
use Rattle.std.specs.Prelude.{ℕ, ◌+◌, ◌==◌, Bool, false, ◌&&◌, ◌||◌, not, List, [], ◌∷◌, filter_map, find, Option, bytes_eq}
use Rattle.std.specs.Option.{option_map_or}
use Rattle.gq_parser.specs.Tree.{VariableDefinition, Operation}
use Rattle.rules_parts.specs.declared.part.Owner.{Owner}
use Rattle.rules_parts.specs.declared.part.Owner.TheVariants as owner
use Rattle.rules_parts.specs.Broken.{BrokenOf}
use Rattle.rules_parts.specs.Parts.{Location, VariableUse, PartsOf}
use Rattle.rules_spreads.specs.Graphs.{GraphOf, graph_of}
use Rattle.rules_spreads.specs.Reach.{is_among, reaches}
use Rattle.rules_typed.specs.DefaultWords.{named_if}
use Rattle.rules_typed.specs.CompatibleTypes.{is_allowed}

abbrev pub is_variable : List ℕ → VariableDefinition → Bool
is_variable name v = bytes_eq name v.name

-- The variable may not stand at this location.
abbrev pub is_forbidden_at : Location → VariableDefinition → Bool
is_forbidden_at l v = not (is_allowed v l)

-- One of these variables is of this name, and the first that is may not stand at this location.
abbrev pub forbids_at : List VariableDefinition → List ℕ → Location → Bool
forbids_at variables name l =
    option_map_or (is_forbidden_at l) (find (is_variable name) variables) false

-- gives the same of a use, whose location has to be known
abbrev pub forbids : List VariableDefinition → VariableUse → Bool
forbids variables u = option_map_or (forbids_at variables u.name) u.location false

-- tells whether this operation or fragment is part of the operation of the number i: the operation
-- itself and what it reaches by spreads
abbrev pub includes : GraphOf → ℕ → Owner → Bool
includes g i (owner.Operation k) = i == k
includes g i (owner.Fragment j) = reaches g (owner.Operation i) j

-- gives the same where these are the fragments that the operation reaches
abbrev pub is_part : ℕ → List ℕ → Owner → Bool
is_part i reached (owner.Operation k) = i == k
is_part i reached (owner.Fragment j) = is_among j reached

-- One of these operations, the first of which has the number i, has the use as a part and forbids it.
abbrev pub is_forbidden : GraphOf → ℕ → List Operation → VariableUse → Bool
is_forbidden g i [] u = false
is_forbidden g i (o ∷ os) u =
    (includes g i u.owner && forbids o.variables u) || is_forbidden g (i + 1) os u

abbrev pub forbidden_usage : GraphOf → List Operation → VariableUse → Option BrokenOf
forbidden_usage g os u = named_if (is_forbidden g 0 os u) u.name u.place

-- the uses of variables that an operation forbids
abbrev pub all_variable_usages_are_allowed : PartsOf → List BrokenOf
all_variable_usages_are_allowed p =
    filter_map (forbidden_usage (graph_of p) p.document.operations) p.uses
