-- Definitions of which types of variables fit which locations (section 5.8.5).
use Rattle.std.specs.Prelude.{Bool, true, false, ◌&&◌, ◌||◌, not, Option, Some, None, bytes_eq, if◌then◌else◌}
use Rattle.gq_parser.specs.Tree.{TypeTree, Named, ListOf, Value, Null, VariableDefinition}
use Rattle.gq_schema.specs.Types.{is_non_null}
use Rattle.rules_parts.specs.Parts.{Location}

-- The type of a variable, which stands first, fits that of a location (AreTypesCompatible): a non-null location needs a
-- non-null variable, a location that may be null takes either; list goes with list, and items likewise; else the names are equal.
abbrev pub are_compatible : TypeTree → TypeTree → Bool
are_compatible (Named p n non_null) (Named q m wanted) = (non_null || not wanted) && bytes_eq n m
are_compatible (ListOf p t non_null) (ListOf q u wanted) =
    (non_null || not wanted) && are_compatible t u
are_compatible _ _ = false

-- the type without the `!` at its end
abbrev pub nullable : TypeTree → TypeTree
nullable (Named p n non_null) = Named p n false
nullable (ListOf p t non_null) = ListOf p t false

-- there is a default, and it isn't `null`
abbrev pub is_non_null_default : Option Value → Bool
is_non_null_default None = false
is_non_null_default (Some (Null p)) = false
is_non_null_default (Some _) = true

-- The variable may stand at the location (IsVariableUsageAllowed).
abbrev pub is_allowed : VariableDefinition → Location → Bool
is_allowed v l =
    if is_non_null l.of_type && not (is_non_null v.of_type)
    then (is_non_null_default v.default || l.has_default)
    && are_compatible v.of_type (nullable l.of_type)
    else are_compatible v.of_type l.of_type
