-- Types and fields that were found once in a schema.
use Rattle.std.specs.Prelude.{◌≡◌, ℕ, List, Option, IfSome}
use Rattle.std.specs.Option.{option_map}
use Rattle.schema_syntax.specs.Tree.{Field, field_of}
use Rattle.schema_syntax.specs.declared.tree.Definition.{Definition}
use Rattle.gq_schema.specs.declared.found.FoundType.{FoundType}
use Rattle.gq_schema.specs.declared.found.FoundField.{FoundField}

-- a type of this schema, where it is known
abbrev pub IsTypeOf : List Definition → Option FoundType → Type 0
IsTypeOf schema ty = IfSome ty (λ (t : FoundType). t.schema.now ≡ schema)

-- a field of this schema, where it is known
abbrev pub IsFieldOf : List Definition → Option FoundField → Type 0
IsFieldOf schema field = IfSome field (λ (f : FoundField). f.schema.now ≡ schema)

-- gives the type's name
abbrev pub type_named : Option FoundType → Option (List ℕ)
type_named ty = option_map (λ (t : FoundType). t.name.now) ty

-- gives the field's definition
abbrev pub field_found : Option FoundField → Option Field
field_found field = option_map (λ (f : FoundField). field_of f.definition.now) field
