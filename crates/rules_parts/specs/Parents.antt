-- Parent types: the composite type whose selection set a selection stands in (section 5.3.1). An object type, an interface and
-- a union are composite; a scalar and an enum are nobody's parent, nor is a name without a definition.
use Rattle.std.specs.Prelude.{ℕ, List, Option, Some, None, if◌then◌else◌}
use Rattle.std.specs.Option.{option_and_then}
use Rattle.gq_parser.specs.Tree.{Condition}
use Rattle.schema_syntax.specs.Tree.{Field, Definition}
use Rattle.gq_schema.specs.Kinds.{is_leaf}
use Rattle.gq_schema.specs.Types.{kind_in, field_in, root_in, core_of}

-- the name q, where it is that of a composite type
abbrev pub composite_in : List Definition → List ℕ → Option (List ℕ)
composite_in defs q = option_and_then (λ k. if is_leaf k then None else Some q) (kind_in defs q)

-- The definition of a field. `__typename` is known in each composite type, and has none.
abbrev pub known_field : List Definition → Option (List ℕ) → List ℕ → Option Field
known_field defs parent name = option_and_then (λ ty. field_in defs ty name) parent

-- gives what is selected inside an operation
abbrev pub inside_operation : List Definition → Option (List ℕ)
inside_operation defs = Some (root_in defs)

-- inside a field, where it is known
abbrev pub inside_field : List Definition → Option Field → Option (List ℕ)
inside_field defs field =
    option_and_then (λ (f : Field). composite_in defs (core_of f.of_type).text) field

-- inside a fragment
abbrev pub inside_condition : List Definition → Condition → Option (List ℕ)
inside_condition defs c = composite_in defs c.name

-- inside an inline fragment, which without a condition is for the type that it stands in
abbrev pub inside_inline : List Definition → Option (List ℕ) → Option Condition → Option (List ℕ)
inside_inline defs parent None = parent
inside_inline defs parent (Some c) = inside_condition defs c
