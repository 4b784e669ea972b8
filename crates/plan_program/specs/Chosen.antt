-- Definitions of which selections count: `@skip`, `@include` and the types of fragments (sections 3.13.1, 3.13.2 and
-- 6.3.2).
use Rattle.std.specs.Prelude.{ℕ, Bool, true, false, not, List, Option, Some, None, codes, bytes_eq, find, option_map, if◌then◌else◌}
use Rattle.std.specs.List.{list_any}
use Rattle.std.specs.Option.{option_map_or}
use Rattle.gq_parser.specs.Tree.{Value, Variable, Argument, Directive, Condition}
use Rattle.gq_parser.specs.Tree as literal
use Rattle.gq_schema.specs.Inputs.{Input, Boolean}
use Rattle.gq_schema.specs.Types.{can_be}
use Rattle.gq_variables.specs.Variables.{value_in}
use Rattle.gq_check.specs.Plans.{PlanOf}

-- true, and no other value
abbrev pub is_true_input : Option Input → Bool
is_true_input (Some (Boolean b)) = b
is_true_input _ = false

-- `true`, or a variable that is true
abbrev pub is_true : PlanOf → Value → Bool
is_true plan (literal.Boolean p b) = b
is_true plan (Variable p name) = is_true_input (value_in plan.variables name)
is_true plan _ = false

abbrev pub is_named : List ℕ → Argument → Bool
is_named name a = bytes_eq name a.name

-- the value of the first argument of this name
abbrev pub given_to : List Argument → List ℕ → Option Value
given_to given name = option_map (λ (a : Argument). a.value) (find (is_named name) given)

-- the directive's argument `if` is true
abbrev pub holds : PlanOf → Directive → Bool
holds plan d = option_map_or (is_true plan) (given_to d.arguments (codes "if")) false

-- `@skip` that is true, or `@include` that isn't
abbrev pub leaves_out : PlanOf → Directive → Bool
leaves_out plan d =
    if bytes_eq d.name (codes "skip") then holds plan d
    else (if bytes_eq d.name (codes "include") then not (holds plan d) else false)

abbrev pub is_left_out : PlanOf → List Directive → Bool
is_left_out plan ds = list_any (leaves_out plan) ds

-- a fragment applies to an object type that is its type, implements it, or is a member of it; one without a type to each
abbrev pub applies : PlanOf → Option Condition → List ℕ → Bool
applies plan None ty = true
applies plan (Some c) ty = can_be plan.definitions c.name ty
