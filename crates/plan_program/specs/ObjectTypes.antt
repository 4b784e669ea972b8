-- Definitions of what contracts see of an object type whose fields are prepared.
use Rattle.std.specs.Prelude.{◌≡◌, ℕ, Bool, true, false, List}
use Rattle.gq_schema.specs.Types.{tree_of}
use Rattle.gq_check.specs.Plans.{PlanOf}
use Rattle.plan_program.specs.declared.object_type.ObjectType.{ObjectType}
use Rattle.plan_program.specs.declared.object_type.ObjectType.TheVariants as type

-- gives its name
abbrev pub name_in : ObjectType → List ℕ
name_in (type.Found found) = found.name.now
name_in (type.Named name) = name.now

-- says whether it was found
abbrev pub is_found : ObjectType → Bool
is_found (type.Found found) = true
is_found (type.Named name) = false

-- where it was found, it was in the plan's schema
abbrev pub IsOf : PlanOf → ObjectType → Type 0
IsOf plan (type.Found found) = tree_of found.schema.now ≡ plan.definitions
IsOf plan (type.Named name) = Unit {0}
