-- All parts of a document: those of its operations first, and then those of its fragments, each in the order of the text.
-- Lists of arguments and of directives go by fields first, and then by directives.
use Rattle.std.specs.Prelude.{◌≡◌, ℕ, ◌+◌, ◌||◌, List, [], ◌∷◌, ◌++◌, map, flat_map, filter_map, Option, Some, None, is_some, codes, bytes_eq, if◌then◌else◌}
use Rattle.std.specs.Global.{Vec}
use Rattle.std.specs.Option.{option_map, option_and_then}
use Rattle.gq_parser.specs.Tree.{Argument, Directive, Selection, Field, Spread, Inline, VariableDefinition, Operation, Fragment, Document}
use Rattle.schema_syntax.specs.Tree as schema
use Rattle.gq_schema.specs.Implements.{argument_in}
use Rattle.gq_schema.specs.Schemas.{condition_argument}
use Rattle.rules_parts.specs.declared.part.Owner.{Owner}
use Rattle.rules_parts.specs.declared.part.Owner.TheVariants as owner
use Rattle.rules_parts.specs.declared.part.DirectiveLocation.{DirectiveLocation}
use Rattle.rules_parts.specs.declared.part.DirectiveLocation.TheVariants as location
use Rattle.rules_parts.specs.declared.part.VariablePart as rust-variable
use Rattle.rules_parts.specs.declared.part.DirectiveList as rust-directives
use Rattle.rules_parts.specs.Pieces.{SelectionPart, FieldPart, SpreadPart, InlinePart, VariablePart, DirectiveList, ArgumentList, ArgumentPart, VariableUse, PartsOf, variable_part_of, directive_list_of}
use Rattle.rules_parts.specs.Fragments.{fragment_place}
use Rattle.rules_parts.specs.Selections.{document_selections}
use Rattle.rules_parts.specs.Uses.{argument_uses}

-- ---- selections by their kind

abbrev pub field_from : SelectionPart → Selection → Option FieldPart
field_from part (Field p alias name as' ds b) = Some (record {
  owner = part.owner;
  parent = part.parent;
  definition = part.definition;
  inside = part.inside;
  place = p;
  alias = alias;
  name = name;
  arguments = as';
  directives = ds;
  below = b;
})
field_from part (Spread p name ds) = None
field_from part (Inline p c ds s) = None

-- the selection, where it is a field
abbrev pub field_part : SelectionPart → Option FieldPart
field_part part = field_from part part.selection

abbrev pub spread_from : List Fragment → SelectionPart → Selection → Option SpreadPart
spread_from fragments part (Field p alias name as' ds b) = None
spread_from fragments part (Spread p name ds) = Some (record {
  owner = part.owner;
  parent = part.parent;
  target = fragment_place fragments name;
  place = p;
  name = name;
  directives = ds;
})
spread_from fragments part (Inline p c ds s) = None

abbrev pub spread_part : List Fragment → SelectionPart → Option SpreadPart
spread_part fragments part = spread_from fragments part part.selection

abbrev pub inline_from : SelectionPart → Selection → Option InlinePart
inline_from part (Field p alias name as' ds b) = None
inline_from part (Spread p name ds) = None
inline_from part (Inline p c ds s) = Some (record {
  owner = part.owner;
  parent = part.parent;
  inside = part.inside;
  place = p;
  condition = c;
  directives = ds;
  selection_set = s;
})

abbrev pub inline_part : SelectionPart → Option InlinePart
inline_part part = inline_from part part.selection

-- ---- variables

abbrev pub variables_from : ℕ → List VariableDefinition → List VariablePart
variables_from i vs = map (λ (v : VariableDefinition). record { operation = i; definition = v }) vs

abbrev pub operation_variables : ℕ → List Operation → List VariablePart
operation_variables i [] = []
operation_variables i (o ∷ os) = variables_from i o.variables ++ operation_variables (i + 1) os

-- the new list is the old one, with these behind it
abbrev pub AddsVariables : Vec rust-variable.VariablePart
    → Vec rust-variable.VariablePart → List VariablePart → Type 0
AddsVariables old new variables = map variable_part_of new.items
    ≡ map variable_part_of old.items ++ variables

-- ---- directives

-- the new list is the old one, with these behind it
abbrev pub AddsDirectives : Vec rust-directives.DirectiveList
    → Vec rust-directives.DirectiveList → List DirectiveList → Type 0
AddsDirectives old new lists = map directive_list_of new.items
    ≡ map directive_list_of old.items ++ lists

-- the directives at one location, where there are any
abbrev pub directives_at : Owner → DirectiveLocation → List Directive → List DirectiveList
directives_at o at [] = []
directives_at o at (d ∷ ds) = record { owner = o; location = at; directives = d ∷ ds } ∷ []

abbrev pub variable_directives : VariablePart → List DirectiveList
variable_directives v =
    directives_at (owner.Operation v.operation) location.VariableDefinition v.definition.directives

abbrev pub operation_directives : ℕ → List Operation → List DirectiveList
operation_directives i [] = []
operation_directives i (o ∷ os) = directives_at (owner.Operation i) location.Operation o.directives
    ++ operation_directives (i + 1) os

abbrev pub fragment_directives : ℕ → List Fragment → List DirectiveList
fragment_directives i [] = []
fragment_directives i (f ∷ fs) = directives_at
    (owner.Fragment i) location.FragmentDefinition f.directives ++ fragment_directives (i + 1) fs

abbrev pub directives_from : Owner → Selection → List DirectiveList
directives_from o (Field p alias name as' ds b) = directives_at o location.Field ds
directives_from o (Spread p name ds) = directives_at o location.FragmentSpread ds
directives_from o (Inline p c ds s) = directives_at o location.InlineFragment ds

abbrev pub selection_directives : SelectionPart → List DirectiveList
selection_directives part = directives_from part.owner part.selection

-- ---- arguments

-- the arguments that a directive takes, where it is known
abbrev pub directive_definitions : List ℕ → Option (List schema.Argument)
directive_definitions name = if bytes_eq name (codes "skip") || bytes_eq name (codes "include")
    then Some (condition_argument ∷ []) else None

abbrev pub field_arguments : FieldPart → ArgumentList
field_arguments f = record {
  owner = f.owner;
  place = f.place;
  definitions = option_map (λ (d : schema.Field). d.arguments) f.definition;
  arguments = f.arguments;
}

abbrev pub arguments_with : Owner → Directive → ArgumentList
arguments_with o d = record {
  owner = o;
  place = d.place;
  definitions = directive_definitions d.name;
  arguments = d.arguments;
}

abbrev pub directive_arguments : DirectiveList → List ArgumentList
directive_arguments l = map (arguments_with l.owner) l.directives

abbrev pub argument_with : Owner → Option (List schema.Argument) → Argument → ArgumentPart
argument_with o definitions a = record {
  owner = o;
  is_known = is_some definitions;
  definition = option_and_then (λ ds. argument_in ds a.name) definitions;
  place = a.place;
  name = a.name;
  value = a.value;
}

abbrev pub listed_arguments : ArgumentList → List ArgumentPart
listed_arguments l = map (argument_with l.owner l.definitions) l.arguments

-- ---- all of them

abbrev pub spreads_in : List Fragment → List SelectionPart → List SpreadPart
spreads_in fragments parts = filter_map (spread_part fragments) parts

abbrev pub inlines_in : List SelectionPart → List InlinePart
inlines_in parts = filter_map inline_part parts

abbrev pub fields_in : List SelectionPart → List FieldPart
fields_in parts = filter_map field_part parts

-- the fields of a document, where each has its place in the list as its number, from 0
abbrev pub fields_of : List schema.Definition → Document → List FieldPart
fields_of defs d = fields_in (document_selections defs d)

abbrev pub variables_in : Document → List VariablePart
variables_in d = operation_variables 0 d.operations

-- those of variables, of operations and of fragments
abbrev pub definition_directives : Document → List DirectiveList
definition_directives d =
    (flat_map variable_directives (variables_in d) ++ operation_directives 0 d.operations)
    ++ fragment_directives 0 d.fragments

abbrev pub directives_in : Document → List SelectionPart → List DirectiveList
directives_in d parts = definition_directives d ++ flat_map selection_directives parts

abbrev pub argument_lists_in : List FieldPart → List DirectiveList → List ArgumentList
argument_lists_in fields directives =
    map field_arguments fields ++ flat_map directive_arguments directives

abbrev pub arguments_in : List ArgumentList → List ArgumentPart
arguments_in lists = flat_map listed_arguments lists

abbrev pub uses_from : List ArgumentPart → List VariableUse
uses_from arguments = flat_map argument_uses arguments

-- the parts of a document over the definitions of a schema
abbrev pub parts_of : List schema.Definition → Document → PartsOf
parts_of defs d =
    let parts = document_selections defs d in
    let fields = fields_in parts in
    let directives = directives_in d parts in
    let lists = argument_lists_in fields directives in
    let arguments = arguments_in lists in
    record {
      definitions = defs;
      document = d;
      fields = fields;
      spreads = spreads_in d.fragments parts;
      inlines = inlines_in parts;
      variables = variables_in d;
      directive_lists = directives;
      argument_lists = lists;
      arguments = arguments;
      uses = uses_from arguments;
    }
