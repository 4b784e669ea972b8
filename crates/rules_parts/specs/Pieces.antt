-- The parts of a document, each with the operation or fragment that it stands in, and what the program's parts say.
-- Texts are lists of bytes. Places in lists count from 0.
use Rattle.std.specs.Prelude.{ℕ, Bool, List, Option}
use Rattle.std.specs.Option.{option_map, option_copied}
use Rattle.text_place.specs.declared.place.Place.{Place}
use Rattle.gq_parser.specs.Tree.{Value, TypeTree, Argument, Directive, Condition, Selection, Below, SelectionSet, VariableDefinition, Document, type_of, literal_of, arguments_of, directives_of, condition_if, selection_of, set_of, below_of, variable_of}
use Rattle.gq_parser.specs.declared.tree.Selection.TheViews.{out-Field}
use Rattle.schema_syntax.specs.Tree as schema
use Rattle.rules_parts.specs.declared.part.Owner.{Owner}
use Rattle.rules_parts.specs.declared.part.DirectiveLocation.{DirectiveLocation}
use Rattle.rules_parts.specs.declared.part.SelectionPart as rust-selection
use Rattle.rules_parts.specs.declared.part.FieldPart as rust-field
use Rattle.rules_parts.specs.declared.part.SpreadPart as rust-spread
use Rattle.rules_parts.specs.declared.part.InlinePart as rust-inline
use Rattle.rules_parts.specs.declared.part.VariablePart as rust-variable
use Rattle.rules_parts.specs.declared.part.DirectiveList as rust-directives
use Rattle.rules_parts.specs.declared.part.ArgumentList as rust-arguments
use Rattle.rules_parts.specs.declared.part.ArgumentPart as rust-argument
use Rattle.rules_parts.specs.declared.part.Location as rust-location
use Rattle.rules_parts.specs.declared.part.VariableUse as rust-use

-- ---- the parts

-- a selection, with the composite type whose selection set it stands in and that of the set inside it, where they are known,
-- and for a field that is known its definition
pub record SelectionPart : Type 0 where
  pub owner : Owner
  pub parent : Option (List ℕ)
  pub definition : Option schema.Field
  pub inside : Option (List ℕ)
  pub selection : Selection

-- a field; inside is the composite type of its own selection set
pub record FieldPart : Type 0 where
  pub owner : Owner
  pub parent : Option (List ℕ)
  pub definition : Option schema.Field
  pub inside : Option (List ℕ)
  pub place : Place
  pub alias : Option (List ℕ)
  pub name : List ℕ
  pub arguments : List Argument
  pub directives : List Directive
  pub below : Below

-- a fragment's spread; its target is the place of the first fragment of its name
pub record SpreadPart : Type 0 where
  pub owner : Owner
  pub parent : Option (List ℕ)
  pub target : Option ℕ
  pub place : Place
  pub name : List ℕ
  pub directives : List Directive

-- an inline fragment; inside is the composite type of its own selection set
pub record InlinePart : Type 0 where
  pub owner : Owner
  pub parent : Option (List ℕ)
  pub inside : Option (List ℕ)
  pub place : Place
  pub condition : Option Condition
  pub directives : List Directive
  pub selection_set : SelectionSet

-- a variable's definition, with the operation that it belongs to
pub record VariablePart : Type 0 where
  pub operation : ℕ
  pub definition : VariableDefinition

-- the directives that stand at one location, at least one
pub record DirectiveList : Type 0 where
  pub owner : Owner
  pub location : DirectiveLocation
  pub directives : List Directive

-- the arguments of a field or of a directive, which may be none, with what defines them where that is known, and the place
-- of the field or directive
pub record ArgumentList : Type 0 where
  pub owner : Owner
  pub place : Place
  pub definitions : Option (List schema.Argument)
  pub arguments : List Argument

-- an argument; whether it is known what may stand there, and its own definition
pub record ArgumentPart : Type 0 where
  pub owner : Owner
  pub is_known : Bool
  pub definition : Option schema.Argument
  pub place : Place
  pub name : List ℕ
  pub value : Value

-- says where a value stands: the type that is wanted there, and whether there is a default
pub record Location : Type 0 where
  pub of_type : TypeTree
  pub has_default : Bool

-- a variable in a value, with its location where that is known
pub record VariableUse : Type 0 where
  pub owner : Owner
  pub place : Place
  pub name : List ℕ
  pub location : Option Location

-- the parts of a document over the definitions of a schema, as lists
pub record PartsOf : Type 0 where
  pub definitions : List schema.Definition
  pub document : Document
  pub fields : List FieldPart
  pub spreads : List SpreadPart
  pub inlines : List InlinePart
  pub variables : List VariablePart
  pub directive_lists : List DirectiveList
  pub argument_lists : List ArgumentList
  pub arguments : List ArgumentPart
  pub uses : List VariableUse

-- ---- what the program's parts say

abbrev pub selection_part_of : rust-selection.SelectionPart → SelectionPart
selection_part_of s = record {
  owner = s.owner;
  parent = option_copied s.parent;
  definition = option_map schema.field_of (option_copied s.definition);
  inside = option_copied s.inside;
  selection = selection_of s.selection.now;
}

abbrev pub field_part_of : rust-field.FieldPart → FieldPart
field_part_of f =
    let field = out-Field f.field.now in
    record {
      owner = f.owner;
      parent = option_copied f.parent;
      definition = option_map schema.field_of (option_copied f.definition);
      inside = option_copied f.inside;
      place = field.place;
      alias = field.alias;
      name = field.name;
      arguments = arguments_of field.arguments.items;
      directives = directives_of field.directives.items;
      below = below_of field.selection_set;
    }

abbrev pub spread_part_of : rust-spread.SpreadPart → SpreadPart
spread_part_of s = record {
  owner = s.owner;
  parent = option_copied s.parent;
  target = s.target;
  place = s.spread.now.place;
  name = s.spread.now.name;
  directives = directives_of s.spread.now.directives.items;
}

abbrev pub inline_part_of : rust-inline.InlinePart → InlinePart
inline_part_of i = record {
  owner = i.owner;
  parent = option_copied i.parent;
  inside = option_copied i.inside;
  place = i.inline.now.place;
  condition = condition_if i.inline.now.condition;
  directives = directives_of i.inline.now.directives.items;
  selection_set = set_of i.inline.now.selection_set;
}

abbrev pub variable_part_of : rust-variable.VariablePart → VariablePart
variable_part_of v = record { operation = v.operation; definition = variable_of v.definition.now }

abbrev pub directive_list_of : rust-directives.DirectiveList → DirectiveList
directive_list_of l =
    record { owner = l.owner; location = l.location; directives = directives_of l.directives.now }

abbrev pub argument_list_of : rust-arguments.ArgumentList → ArgumentList
argument_list_of l = record {
  owner = l.owner;
  place = l.place;
  definitions = option_map schema.arguments_of (option_copied l.definitions);
  arguments = arguments_of l.arguments.now;
}

abbrev pub argument_part_of : rust-argument.ArgumentPart → ArgumentPart
argument_part_of a = record {
  owner = a.owner;
  is_known = a.is_known;
  definition = option_map schema.argument_of (option_copied a.definition);
  place = a.argument.now.place;
  name = a.argument.now.name;
  value = literal_of a.argument.now.value;
}

abbrev pub location_of : rust-location.Location → Location
location_of l = record { of_type = type_of l.of_type.now; has_default = l.has_default }

abbrev pub use_of : rust-use.VariableUse → VariableUse
use_of u = record {
  owner = u.owner;
  place = u.place;
  name = u.name.now;
  location = option_map location_of u.location;
}
