-- The names of a document's parts are written in its text, and those of a schema are strings.
use Rattle.std.proofs.Common.{refl, ℕ, ◌+◌, Bool, cond, codes, List, [], ◌∷◌, Option, Some, None}
use Rattle.std.specs.Option.{option_map_or}
use Rattle.std.proofs.lemmas.Bool.{cond_both}
use Rattle.gq_parser.specs.Tree as tree
use Rattle.gq_parser.specs.Tree.{Value, Values, Members, Argument, Directive, Selection, Below, SelectionSet, Selections, VariableDefinition, Operation, Fragment, Document}
use Rattle.schema_syntax.specs.Tree as schema
use Rattle.schema_syntax.specs.Tree.{Definition, Field, Object, Interface}
use Rattle.schema_syntax.specs.declared.tree.Definition as rust
use Rattle.schema_syntax.specs.declared.tree.Definition.TheVariants as rust-definition
use Rattle.schema_syntax.specs.declared.tree.FieldDefinition as rust-field
use Rattle.schema_syntax.specs.declared.tree.ArgumentDefinition as rust-argument
use Rattle.gq_schema.specs.Schemas.{condition_argument}
use Rattle.gq_schema.specs.Types.{tree_of, own_fields}
use Rattle.rules_parts.specs.declared.part.Owner.{Owner}
use Rattle.rules_parts.specs.declared.part.Owner.TheVariants as owner
use Rattle.rules_parts.specs.declared.part.DirectiveLocation.{DirectiveLocation}
use Rattle.rules_parts.specs.Pieces.{SelectionPart, FieldPart, SpreadPart, InlinePart, VariablePart, DirectiveList, ArgumentList, ArgumentPart, Location, VariableUse}
use Rattle.rules_parts.specs.Parts.{PartsOf}
use Rattle.rules_parts.specs.Parents.{known_field, inside_operation, inside_field, inside_condition, inside_inline}
use Rattle.rules_parts.specs.Selections.{selections_in, selections_among, selections_from, selections_below, operation_selections, fragment_selections, document_selections}
use Rattle.rules_parts.specs.Uses.{uses_in, uses_among, uses_within, item_location}
use Rattle.rules_parts.specs.Listing.{field_from, spread_from, inline_from, operation_variables, directives_at, operation_directives, fragment_directives, directives_from, parts_of}
use Rattle.plan_laws.proofs.Each.{Each, Maybe, each-append, each-find, each-map, each-filter_map, each-flat_map, maybe-map}
use Rattle.world_answers.proofs.Names.{IsWritten, ValueNames, ValuesNames, MembersNames, ArgumentNames, DirectiveNames, ConditionNames, SelectionNames, BelowNames, SetNames, SelectionsNames, VariableNames, OperationNames, FragmentNames, DocumentNames}
use Rattle.world_answers.proofs.Strings.{IsSaid, said-word}

-- ---- the names of a schema

abbrev pub ArgumentSaid : schema.Argument → Type 0
ArgumentSaid a = IsSaid a.name.text

abbrev pub FieldSaid : Field → Type 0
FieldSaid f = Each ArgumentSaid f.arguments

abbrev pub DefinitionSaid : Definition → Type 0
DefinitionSaid d = Each FieldSaid (own_fields d)

arguments-said : (as' : List rust-argument.ArgumentDefinition) → Each ArgumentSaid (schema.arguments_of as')
arguments-said [] = tt
arguments-said (a ∷ as') = ((a.name.text, refl), arguments-said as')

fields-said : (fs : List rust-field.FieldDefinition) → Each FieldSaid (schema.fields_of fs)
fields-said [] = tt
fields-said (f ∷ fs) = (arguments-said f.arguments.items, fields-said fs)

definition-said : (d : rust.Definition) → DefinitionSaid (schema.definition_of d)
definition-said (rust-definition.Object o) = fields-said o.fields.items
definition-said (rust-definition.Interface i) = fields-said i.fields.items
definition-said d = tt

pub schema-said : (ds : List rust.Definition) → Each DefinitionSaid (tree_of ds)
schema-said [] = tt
schema-said (d ∷ ds) = (definition-said d, schema-said ds)

-- ---- the names of parts

abbrev pub PartNames : SelectionPart → Type 0
PartNames s = SelectionNames s.selection × Maybe FieldSaid s.definition

pub record FieldNames (f : FieldPart) : Type 0 where
  pub alias : Maybe IsWritten f.alias
  pub name : IsWritten f.name
  pub arguments : Each ArgumentNames f.arguments
  pub directives : Each DirectiveNames f.directives
  pub definition : Maybe FieldSaid f.definition

abbrev pub SpreadNames : SpreadPart → Type 0
SpreadNames s = IsWritten s.name

abbrev pub InlineNames : InlinePart → Type 0
InlineNames i = Maybe ConditionNames i.condition

abbrev pub VariablePartNames : VariablePart → Type 0
VariablePartNames v = VariableNames v.definition

abbrev pub DirectiveListNames : DirectiveList → Type 0
DirectiveListNames l = Each DirectiveNames l.directives

pub record ArgumentListNames (l : ArgumentList) : Type 0 where
  pub arguments : Each ArgumentNames l.arguments
  pub definitions : Maybe (Each ArgumentSaid) l.definitions

pub record ArgumentPartNames (a : ArgumentPart) : Type 0 where
  pub name : IsWritten a.name
  pub value : ValueNames a.value

abbrev pub UseNames : VariableUse → Type 0
UseNames u = IsWritten u.name

-- ---- from a document to its parts

module _ (defs : List Definition) (of_schema : Each DefinitionSaid defs) where
  type-said : (o : Option Definition) → Maybe DefinitionSaid o → Each FieldSaid (option_map_or own_fields o [])
  type-said None h = tt
  type-said (Some d) h = h

  field-said : (parent : Option (List ℕ)) (name : List ℕ) → Maybe FieldSaid (known_field defs parent name)
  field-said None name = tt
  field-said (Some ty) name = each-find FieldSaid _ _ (type-said _ (each-find DefinitionSaid _ _ of_schema))

  mutual
    in-set : (o : Owner) (parent : Option (List ℕ)) (s : SelectionSet) → SetNames s → Each PartNames (selections_in defs o parent s)
    in-set o parent (tree.set_at p ss) h = among o parent ss h

    among : (o : Owner) (parent : Option (List ℕ)) (ss : Selections) → SelectionsNames ss → Each PartNames (selections_among defs o parent ss)
    among o parent tree.no_selection h = tt
    among o parent (tree.and_selection s ss) h = each-append PartNames _ _ (from o parent s h.0) (among o parent ss h.1)

    from : (o : Owner) (parent : Option (List ℕ)) (s : Selection) → SelectionNames s → Each PartNames (selections_from defs o parent s)
    from o parent (tree.Field p alias name as' ds b) h = ((h, field-said parent name), inside o (inside_field defs (known_field defs parent name)) b h.4)
    from o parent (tree.Spread p name ds) h = ((h, tt), tt)
    from o parent (tree.Inline p c ds s) h = ((h, tt), in-set o (inside_inline defs parent c) s h.2)

    inside : (o : Owner) (parent : Option (List ℕ)) (b : Below) → BelowNames b → Each PartNames (selections_below defs o parent b)
    inside o parent tree.nothing_below h = tt
    inside o parent (tree.below s) h = in-set o parent s h

  of-operations : (i : ℕ) (os : List Operation) → Each OperationNames os → Each PartNames (operation_selections defs i os)
  of-operations i [] h = tt
  of-operations i (o ∷ os) h = each-append PartNames _ _ (in-set (owner.Operation i) (inside_operation defs) o.selection_set h.0.3) (of-operations (i + 1) os h.1)

  of-fragments : (i : ℕ) (fs : List Fragment) → Each FragmentNames fs → Each PartNames (fragment_selections defs i fs)
  of-fragments i [] h = tt
  of-fragments i (f ∷ fs) h = each-append PartNames _ _ (in-set (owner.Fragment i) (inside_condition defs f.condition) f.selection_set h.0.3) (of-fragments (i + 1) fs h.1)

field-named : (part : SelectionPart) (s : Selection) → SelectionNames s → Maybe FieldSaid part.definition → Maybe FieldNames (field_from part s)
field-named part (tree.Field p alias name as' ds b) h said = record { alias = h.0; name = h.1; arguments = h.2; directives = h.3; definition = said }
field-named part s h said = tt

spread-named : (fs : List Fragment) (part : SelectionPart) (s : Selection) → SelectionNames s → Maybe SpreadNames (spread_from fs part s)
spread-named fs part (tree.Spread p name ds) h = h.0
spread-named fs part s h = tt

inline-named : (part : SelectionPart) (s : Selection) → SelectionNames s → Maybe InlineNames (inline_from part s)
inline-named part (tree.Inline p c ds s) h = h.0
inline-named part s h = tt

variables-among : (i : ℕ) (os : List Operation) → Each OperationNames os → Each VariablePartNames (operation_variables i os)
variables-among i [] h = tt
variables-among i (o ∷ os) h = each-append VariablePartNames _ _ (each-map VariableNames VariablePartNames _ _ (λ v p. p) h.0.1) (variables-among (i + 1) os h.1)

at-named : (o : Owner) (at : DirectiveLocation) (ds : List Directive) → Each DirectiveNames ds → Each DirectiveListNames (directives_at o at ds)
at-named o at [] h = tt
at-named o at (d ∷ ds) h = (h, tt)

operations-directed : (i : ℕ) (os : List Operation) → Each OperationNames os → Each DirectiveListNames (operation_directives i os)
operations-directed i [] h = tt
operations-directed i (o ∷ os) h = each-append DirectiveListNames _ _ (at-named _ _ _ h.0.2) (operations-directed (i + 1) os h.1)

fragments-directed : (i : ℕ) (fs : List Fragment) → Each FragmentNames fs → Each DirectiveListNames (fragment_directives i fs)
fragments-directed i [] h = tt
fragments-directed i (f ∷ fs) h = each-append DirectiveListNames _ _ (at-named _ _ _ h.0.2) (fragments-directed (i + 1) fs h.1)

selection-directed : (o : Owner) (s : Selection) → SelectionNames s → Each DirectiveListNames (directives_from o s)
selection-directed o (tree.Field p alias name as' ds b) h = at-named _ _ _ h.3
selection-directed o (tree.Spread p name ds) h = at-named _ _ _ h.1
selection-directed o (tree.Inline p c ds s) h = at-named _ _ _ h.1

condition-said : (b : Bool) → Maybe (Each ArgumentSaid) (cond b (Some (condition_argument ∷ [])) None)
condition-said b = cond_both b _ _ (Maybe (Each ArgumentSaid)) (λ _. (said-word (codes "if") refl refl, tt)) (λ _. tt)

mutual
  uses-in : (o : Owner) (at : Option Location) (v : Value) → ValueNames v → Each UseNames (uses_in o at v)
  uses-in o at (tree.Variable p n) h = (h, tt)
  uses-in o at (tree.Array p vs) h = uses-among o (item_location at) vs h
  uses-in o at (tree.Object p ms) h = uses-within o ms h
  uses-in o at v h = tt

  uses-among : (o : Owner) (at : Option Location) (vs : Values) → ValuesNames vs → Each UseNames (uses_among o at vs)
  uses-among o at tree.no_value h = tt
  uses-among o at (tree.and_value v vs) h = each-append UseNames _ _ (uses-in o at v h.0) (uses-among o at vs h.1)

  uses-within : (o : Owner) (ms : Members) → MembersNames ms → Each UseNames (uses_within o ms)
  uses-within o tree.no_member h = tt
  uses-within o (tree.and_member p n v ms) h = each-append UseNames _ _ (uses-in o None v h.0) (uses-within o ms h.1)

-- ---- all of them

pub record PartsNames (p : PartsOf) : Type 0 where
  pub document : DocumentNames p.document
  pub fields : Each FieldNames p.fields
  pub spreads : Each SpreadNames p.spreads
  pub inlines : Each InlineNames p.inlines
  pub variables : Each VariablePartNames p.variables
  pub directive_lists : Each DirectiveListNames p.directive_lists
  pub argument_lists : Each ArgumentListNames p.argument_lists
  pub arguments : Each ArgumentPartNames p.arguments
  pub uses : Each UseNames p.uses

pub parts-named : (defs : List Definition) (d : Document) → Each DefinitionSaid defs → DocumentNames d → PartsNames (parts_of defs d)
parts-named defs d of_schema h =
    let p = parts_of defs d in
    let parts : Each PartNames (document_selections defs d) = each-append PartNames _ _ (of-operations defs of_schema 0 _ h.operations) (of-fragments defs of_schema 0 _ h.fragments) in
    let fields : Each FieldNames p.fields = each-filter_map PartNames FieldNames _ _ (λ part q. field-named part part.selection q.0 q.1) parts in
    let variables : Each VariablePartNames p.variables = variables-among 0 _ h.operations in
    let directives : Each DirectiveListNames p.directive_lists =
    each-append DirectiveListNames _ _ (each-append DirectiveListNames _ _
    (each-append DirectiveListNames _ _ (each-flat_map VariablePartNames DirectiveListNames _ _ (λ v q. at-named _ _ _ q.1) variables) (operations-directed 0 _ h.operations)) (fragments-directed 0 _ h.fragments))
    (each-flat_map PartNames DirectiveListNames _ _ (λ part q. selection-directed part.owner part.selection q.0) parts) in
    let lists : Each ArgumentListNames p.argument_lists =
    each-append ArgumentListNames _ _
    (each-map FieldNames ArgumentListNames _ _ (λ f q. record { arguments = q.arguments; definitions = maybe-map FieldSaid (Each ArgumentSaid) _ _ (λ d r. r) q.definition }) fields)
    (each-flat_map DirectiveListNames ArgumentListNames _ _ (λ l q. each-map DirectiveNames ArgumentListNames _ _ (λ d r. record { arguments = r.1; definitions = condition-said _ }) q) directives) in
    let arguments : Each ArgumentPartNames p.arguments =
    each-flat_map ArgumentListNames ArgumentPartNames _ _ (λ l q. each-map ArgumentNames ArgumentPartNames _ _ (λ a r. record { name = r.0; value = r.1 }) q.arguments) lists in
    record {
      document = h;
      fields = fields;
      spreads = each-filter_map PartNames SpreadNames _ _ (λ part q. spread-named d.fragments part part.selection q.0) parts;
      inlines = each-filter_map PartNames InlineNames _ _ (λ part q. inline-named part part.selection q.0) parts;
      variables = variables;
      directive_lists = directives;
      argument_lists = lists;
      arguments = arguments;
      uses = each-flat_map ArgumentPartNames UseNames _ _ (λ a q. uses-in a.owner _ a.value q.value) arguments;
    }
