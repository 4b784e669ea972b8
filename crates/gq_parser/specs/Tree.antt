-- The trees of the grammar, without where they lie in memory. Texts are lists of bytes.
use Rattle.std.specs.Prelude.{ℕ, Bool, List, [], ◌∷◌, map, Option, Some, None}
use Rattle.std.specs.Arc.{arc_value}
use Rattle.std.specs.declared.alloc.Global.{Global}
use Rattle.std.specs.declared.sync.Arc.{Arc}
use Rattle.text_place.specs.declared.place.Place.{Place}
use Rattle.gq_parser.specs.declared.tree.OperationKind.{OperationKind}
use Rattle.gq_parser.specs.declared.tree.Argument as rust-argument
use Rattle.gq_parser.specs.declared.tree.Value.TheOpen as open-literal
use Rattle.gq_parser.specs.declared.tree.Value.TheFolds.{fold-Argument, fold-Literal}
use Rattle.gq_parser.specs.declared.tree.Value.TheViews.{roll-Literal}
use Rattle.gq_parser.specs.declared.tree.Literal as rust-literal
use Rattle.gq_parser.specs.declared.tree.Value as rust-value
use Rattle.gq_parser.specs.declared.tree.TypeRef as rust-type
use Rattle.gq_parser.specs.declared.tree.TypeRef.TheOpen as open-type
use Rattle.gq_parser.specs.declared.tree.TypeRef.TheFolds.{fold-TypeRef}
use Rattle.gq_parser.specs.declared.tree.Directive as rust-directive
use Rattle.gq_parser.specs.declared.tree.TypeCondition as rust-condition
use Rattle.gq_parser.specs.declared.tree.VariableDefinition as rust-variable
use Rattle.gq_parser.specs.declared.tree.Selection as rust-selection
use Rattle.gq_parser.specs.declared.tree.SelectionSet as rust-set
use Rattle.gq_parser.specs.declared.tree.Selection.TheOpen as open-selection
use Rattle.gq_parser.specs.declared.tree.Selection.TheFolds.{fold-SelectionSet, fold-Selection, fold-Field, fold-Inline}
use Rattle.gq_parser.specs.declared.tree.Field as rust-field
use Rattle.gq_parser.specs.declared.tree.Inline as rust-inline
use Rattle.gq_parser.specs.declared.tree.Operation as rust-operation
use Rattle.gq_parser.specs.declared.tree.Fragment as rust-fragment
use Rattle.gq_parser.specs.declared.tree.Document as rust-document

-- ---- the trees

mutual
  -- a value, with the place of its first token
  pub data Value : Type 0 where
    Variable : Place → List ℕ → Value
    Int : Place → List ℕ → Value
    Float : Place → List ℕ → Value
    Text : Place → List ℕ → Value
    Boolean : Place → Bool → Value
    Null : Place → Value
    Enum : Place → List ℕ → Value
    Array : Place → Values → Value
    Object : Place → Members → Value

  pub data Values : Type 0 where
    no_value : Values
    and_value : Value → Values → Values

  -- the fields of an object, each with its place and its name
  pub data Members : Type 0 where
    no_member : Members
    and_member : Place → List ℕ → Value → Members → Members

-- a reference to a type, with the place of its first token, and whether a `!` follows it
pub data TypeTree : Type 0 where
  Named : Place → List ℕ → Bool → TypeTree
  ListOf : Place → TypeTree → Bool → TypeTree

-- a name and its value
pub record Argument : Type 0 where
  pub place : Place
  pub name : List ℕ
  pub value : Value

pub record Directive : Type 0 where
  pub place : Place
  pub name : List ℕ
  pub arguments : List Argument

-- the type that a fragment is for
pub record Condition : Type 0 where
  pub place : Place
  pub name : List ℕ

mutual
  pub data Selection : Type 0 where
    -- a place, an alias, a name, arguments, directives, and what is selected below
    Field : Place → Option (List ℕ) → List ℕ → List Argument → List Directive → Below → Selection
    -- a place, a fragment's name and directives
    Spread : Place → List ℕ → List Directive → Selection
    -- a place, a type, directives and what is selected
    Inline : Place → Option Condition → List Directive → SelectionSet → Selection

  pub data Below : Type 0 where
    nothing_below : Below
    below : SelectionSet → Below

  -- the place of the brace, and the selections
  pub data SelectionSet : Type 0 where
    set_at : Place → Selections → SelectionSet

  pub data Selections : Type 0 where
    no_selection : Selections
    and_selection : Selection → Selections → Selections

pub record VariableDefinition : Type 0 where
  pub place : Place
  pub name : List ℕ
  pub of_type : TypeTree
  pub default : Option Value
  pub directives : List Directive

pub record Operation : Type 0 where
  pub place : Place
  pub kind : OperationKind
  pub name : Option (List ℕ)
  pub variables : List VariableDefinition
  pub directives : List Directive
  pub selection_set : SelectionSet

pub record Fragment : Type 0 where
  pub place : Place
  pub name : List ℕ
  pub condition : Condition
  pub directives : List Directive
  pub selection_set : SelectionSet

pub record Document : Type 0 where
  pub operations : List Operation
  pub fragments : List Fragment

-- ---- what the program's trees say

-- these values, and then others
abbrev pub values_then : List Value → Values → Values
values_then [] others = others
values_then (v ∷ vs) others = and_value v (values_then vs others)

abbrev pub values_of : List Value → Values
values_of vs = values_then vs no_value

-- these fields, and then others
abbrev pub members_then : List Argument → Members → Members
members_then [] others = others
members_then (a ∷ as') others = and_member a.place a.name a.value (members_then as' others)

abbrev pub members_of : List Argument → Members
members_of as' = members_then as' no_member

abbrev pub argument_step : open-literal.Argument-F (Place → Value) Argument Value → Argument
argument_step a = record { place = a.place; name = a.name; value = a.value }

abbrev pub literal_step : open-literal.Literal-F (Place → Value) Argument Value → Value
literal_step l = l.value l.place

abbrev pub value_step : open-literal.Value-F (Place → Value) Argument Value → Place → Value
value_step (open-literal.Variable n) p = Variable p n
value_step (open-literal.Int n) p = Int p n
value_step (open-literal.Float n) p = Float p n
value_step (open-literal.Text s) p = Text p s
value_step (open-literal.Boolean b) p = Boolean p b
value_step open-literal.Null p = Null p
value_step (open-literal.Enum n) p = Enum p n
value_step (open-literal.List vs) p = Array p (values_of vs.items)
value_step (open-literal.Object as') p = Object p (members_of as'.items)

-- a literal at a place
abbrev pub the_literal : Place → rust-value.Value → rust-literal.Literal
the_literal p v = roll-Literal (record { place = p; value = v })

abbrev pub literal_of : rust-literal.Literal → Value
literal_of = fold-Literal (Place → Value) Argument Value value_step argument_step literal_step

abbrev pub map_literals : List rust-literal.Literal → Values
map_literals ls = values_of (map literal_of ls)

abbrev pub argument_of : rust-argument.Argument → Argument
argument_of = fold-Argument (Place → Value) Argument Value value_step argument_step literal_step

abbrev pub arguments_of : List rust-argument.Argument → List Argument
arguments_of as' = map argument_of as'

abbrev pub map_members : List rust-argument.Argument → Members
map_members as' = members_of (map argument_of as')

abbrev pub type_step : open-type.TypeRef-F TypeTree → TypeTree
type_step (open-type.Named p n b) = Named p n b
type_step (open-type.List p t b) = ListOf p t.value b

abbrev pub type_of : rust-type.TypeRef → TypeTree
type_of = fold-TypeRef TypeTree type_step

abbrev pub directive_of : rust-directive.Directive → Directive
directive_of d = record {
  place = d.place;
  name = d.name;
  arguments = arguments_of d.arguments.items;
}

abbrev pub directives_of : List rust-directive.Directive → List Directive
directives_of ds = map directive_of ds

abbrev pub condition_of : rust-condition.TypeCondition → Condition
condition_of c = record { place = c.place; name = c.name }

abbrev pub condition_if : Option rust-condition.TypeCondition → Option Condition
condition_if None = None
condition_if (Some c) = Some (condition_of c)

-- these selections, and then others
abbrev pub selections_then : List Selection → Selections → Selections
selections_then [] others = others
selections_then (s ∷ ss) others = and_selection s (selections_then ss others)

abbrev pub selections_of : List Selection → Selections
selections_of ss = selections_then ss no_selection

abbrev pub below_if : Option (Arc SelectionSet Global) → Below
below_if None = nothing_below
below_if (Some s) = below (arc_value s)

abbrev pub set_step : open-selection.SelectionSet-F Selection Selection Selection SelectionSet
    → SelectionSet
set_step s = set_at s.place (selections_of s.selections.items)

abbrev pub selection_step : open-selection.Selection-F Selection Selection Selection SelectionSet
    → Selection
selection_step (open-selection.Field f) = f
selection_step (open-selection.Spread s) =
    Spread s.place s.name (directives_of s.directives.items)
selection_step (open-selection.Inline i) = i

abbrev pub field_step : open-selection.Field-F Selection Selection Selection SelectionSet
    → Selection
field_step f = Field f.place f.alias f.name
    (arguments_of f.arguments.items) (directives_of f.directives.items) (below_if f.selection_set)

abbrev pub inline_step : open-selection.Inline-F Selection Selection Selection SelectionSet
    → Selection
inline_step i =
    Inline i.place (condition_if i.condition) (directives_of i.directives.items) i.selection_set

abbrev pub set_of : rust-set.SelectionSet → SelectionSet
set_of = fold-SelectionSet Selection Selection Selection SelectionSet selection_step
    field_step inline_step set_step

abbrev pub selection_of : rust-selection.Selection → Selection
selection_of = fold-Selection Selection Selection Selection SelectionSet selection_step
    field_step inline_step set_step

abbrev pub field_of : rust-field.Field → Selection
field_of = fold-Field Selection Selection Selection SelectionSet selection_step
    field_step inline_step set_step

abbrev pub inline_of : rust-inline.Inline → Selection
inline_of = fold-Inline Selection Selection Selection SelectionSet selection_step
    field_step inline_step set_step

abbrev pub below_of : Option (Arc rust-set.SelectionSet Global) → Below
below_of None = nothing_below
below_of (Some s) = below (set_of (arc_value s))

abbrev pub map_selections : List rust-selection.Selection → Selections
map_selections ss = selections_of (map selection_of ss)

abbrev pub default_of : Option rust-literal.Literal → Option Value
default_of None = None
default_of (Some l) = Some (literal_of l)

abbrev pub variable_of : rust-variable.VariableDefinition → VariableDefinition
variable_of v = record {
  place = v.place;
  name = v.name;
  of_type = type_of v.of_type;
  default = default_of v.default;
  directives = directives_of v.directives.items;
}

abbrev pub variables_of : List rust-variable.VariableDefinition → List VariableDefinition
variables_of vs = map variable_of vs

abbrev pub operation_of : rust-operation.Operation → Operation
operation_of o = record {
  place = o.place;
  kind = o.kind;
  name = o.name;
  variables = variables_of o.variables.items;
  directives = directives_of o.directives.items;
  selection_set = set_of o.selection_set;
}

abbrev pub fragment_of : rust-fragment.Fragment → Fragment
fragment_of f = record {
  place = f.place;
  name = f.name;
  condition = condition_of f.condition;
  directives = directives_of f.directives.items;
  selection_set = set_of f.selection_set;
}

abbrev pub document_of : rust-document.Document → Document
document_of d = record {
  operations = map operation_of d.operations.items;
  fragments = map fragment_of d.fragments.items;
}
