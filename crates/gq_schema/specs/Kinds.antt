-- The kinds of types (section 3.4).
use Rattle.std.specs.Prelude.{Bool, true, false}
use Rattle.gq_schema.specs.declared.kind.TypeKind.{TypeKind}
use Rattle.gq_schema.specs.declared.kind.TypeKind.TheVariants.{Scalar, Object, Interface, Enum}

-- a scalar or an enum
abbrev pub is_leaf : TypeKind → Bool
is_leaf Scalar = true
is_leaf Enum = true
is_leaf _ = false

-- gives what an argument may be (section 3.6.1)
abbrev pub is_input : TypeKind → Bool
is_input = is_leaf

abbrev pub is_object : TypeKind → Bool
is_object Object = true
is_object _ = false

abbrev pub is_interface : TypeKind → Bool
is_interface Interface = true
is_interface _ = false
