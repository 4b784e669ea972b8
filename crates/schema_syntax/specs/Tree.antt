-- The trees of schema texts, without where they lie in memory. Texts are lists of bytes.
use Rattle.std.specs.Prelude.{ℕ, List, map, Option, string_bytes}
use Rattle.text_place.specs.declared.place.Place.{Place}
use Rattle.gq_parser.specs.Tree.{Value, TypeTree, type_of, default_of}
use Rattle.schema_syntax.specs.declared.tree.Name as rust-name
use Rattle.schema_syntax.specs.declared.tree.ArgumentDefinition as rust-argument
use Rattle.schema_syntax.specs.declared.tree.FieldDefinition as rust-field
use Rattle.schema_syntax.specs.declared.tree.Definition as rust-definition
use Rattle.schema_syntax.specs.declared.tree.Definition.TheVariants as rust
use Rattle.schema_syntax.specs.declared.tree.SchemaDocument as rust-document

-- ---- the trees

-- a name, with its place
pub record Name : Type 0 where
  pub text : List ℕ
  pub place : Place

pub record Argument : Type 0 where
  pub name : Name
  pub of_type : TypeTree
  pub default : Option Value

pub record Field : Type 0 where
  pub name : Name
  pub arguments : List Argument
  pub of_type : TypeTree

pub data Definition : Type 0 where
  -- the place of the word `schema`, and the type that queries begin at
  Schema : Place → Name → Definition
  -- a name, the interfaces that it implements, and its fields
  Object : Name → List Name → List Field → Definition
  Interface : Name → List Field → Definition
  -- a name and the members
  Union : Name → List Name → Definition
  -- a name and the values
  Enum : Name → List Name → Definition

-- ---- what the program's trees say

abbrev pub name_of : rust-name.Name → Name
name_of n = record { text = string_bytes n.text; place = n.place }

abbrev pub names_of : List rust-name.Name → List Name
names_of ns = map name_of ns

abbrev pub argument_of : rust-argument.ArgumentDefinition → Argument
argument_of a =
    record { name = name_of a.name; of_type = type_of a.of_type; default = default_of a.default }

abbrev pub arguments_of : List rust-argument.ArgumentDefinition → List Argument
arguments_of as' = map argument_of as'

abbrev pub field_of : rust-field.FieldDefinition → Field
field_of f = record {
  name = name_of f.name;
  arguments = arguments_of f.arguments.items;
  of_type = type_of f.of_type;
}

abbrev pub fields_of : List rust-field.FieldDefinition → List Field
fields_of fs = map field_of fs

abbrev pub definition_of : rust-definition.Definition → Definition
definition_of (rust.Schema s) = Schema s.place (name_of s.query)
definition_of (rust.Object o) =
    Object (name_of o.name) (names_of o.interfaces.items) (fields_of o.fields.items)
definition_of (rust.Interface i) = Interface (name_of i.name) (fields_of i.fields.items)
definition_of (rust.Union u) = Union (name_of u.name) (names_of u.members.items)
definition_of (rust.Enum e) = Enum (name_of e.name) (names_of e.values.items)

abbrev pub definitions_of : rust-document.SchemaDocument → List Definition
definitions_of d = map definition_of d.definitions.items
