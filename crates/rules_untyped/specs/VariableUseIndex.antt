-- Numbers of names. A use goes by its place in the document's list, from 0.
use Rattle.std.specs.Prelude.{ℕ, ◌==◌, Bool, false, List, map, Option, Some, None, unwrap_or, bytes_eq}
use Rattle.std.specs.HashMap.{HashMap, get_by}
use Rattle.std.specs.Borrow.{Bor}
use Rattle.gq_schema.specs.Places.{place_from}
use Rattle.gq_parser.specs.Tree.{VariableDefinition}
use Rattle.rules_parts.specs.Parts.{VariableUse}
use Rattle.rules_spreads.specs.declared.operation_set.OperationSet.{OperationSet}
use Rattle.rules_spreads.specs.OperationSpans.{has, set_at}

abbrev pub is_use : List ℕ → VariableUse → Bool
is_use name u = bytes_eq name u.name

-- the number of a name: the place of its first use
abbrev pub number_in : List VariableUse → List ℕ → Option ℕ
number_in uses name = place_from 0 (is_use name) uses

-- the numbers of names, as a map has them
abbrev pub number_by : {S : Type 0} → HashMap (Bor (List ℕ)) ℕ S → List ℕ → Option ℕ
number_by names q = get_by (λ k. bytes_eq q k.now) names

-- of each use the number of its name
abbrev pub numbers_by : (List ℕ → Option ℕ) → List VariableUse → List ℕ
numbers_by number uses = map (λ (u : VariableUse). unwrap_or (number u.name) 0) uses

-- it is there, and is n
abbrev pub is_number : ℕ → Option ℕ → Bool
is_number n None = false
is_number n (Some m) = n == m

-- the variable's name has the number n
abbrev pub is_numbered : (List ℕ → Option ℕ) → ℕ → VariableDefinition → Bool
is_numbered number n v = is_number n (number v.name)

-- the operation of the number m in a span is in the set of a number, which may not be there
abbrev pub has_if : List OperationSet → ℕ → Option ℕ → Bool
has_if sets m None = false
has_if sets m (Some n) = has (set_at sets n) m
