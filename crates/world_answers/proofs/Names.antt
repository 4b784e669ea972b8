-- The names of a document are those of its tokens: UTF-8, and short.
use Rattle.std.proofs.Common.{ℕ, Bool, List, Option}
use Rattle.text_place.specs.declared.place.Place.{Place}
use Rattle.gq_parser.specs.declared.value.Constness.{Constness}
use Rattle.gq_parser.specs.Word.{Token, at, Name}
use Rattle.gq_parser.specs.Fault.{most_bytes}
use Rattle.gq_parser.specs.Tree as tree
use Rattle.gq_parser.specs.Tree.{Value, Values, Members, TypeTree, Argument, Directive, Condition, Selection, Below, SelectionSet, Selections, VariableDefinition, Operation, Fragment, Document}
use Rattle.gq_parser.specs.Grammar.{IsValue, variable, array, object, AreValues, no_more_values, next_value, AreMembers, no_more_members, next_member}
use Rattle.gq_parser.specs.Grammar.{IsBang, no_bang, bang, IsType, named, list_of, IsArgument, argument, AreArguments, no_more_arguments, next_argument, AreOptionalArguments, no_arguments, arguments}
use Rattle.gq_parser.specs.Grammar.{IsDirective, directive, AreDirectives, no_directives, next_directive, IsFieldName, unaliased, aliased, IsCondition, no_condition, condition}
use Rattle.gq_parser.specs.Grammar.{IsSelection, field, spread, inline, IsOptionalSet, no_set, a_set, IsSelectionSet, selection_set, AreSelections, no_more_selections, next_selection}
use Rattle.gq_parser.specs.Grammar.{IsDefault, no_default, default, IsVariable, variable_definition, AreVariables, no_more_variables, next_variable, AreOptionalVariables, no_variables, variables}
use Rattle.gq_parser.specs.Grammar.{IsOptionalName, no_name, a_name, IsOperation, shorthand, operation, IsFragment, fragment, AreDefinitions, no_more_definitions, next_operation, next_fragment, IsDocument}
use Rattle.plan_laws.proofs.Each.{Each, Maybe}
use Rattle.world_answers.proofs.Strings.{Fits}

-- a name that a text has
abbrev pub IsWritten : List ℕ → Type 0
IsWritten n = Fits most_bytes n

-- ---- names of tokens and of trees

abbrev pub TokenNames : Token → Type 0
TokenNames (at p (Name k n)) = IsWritten n
TokenNames (at p _) = Unit {0}

abbrev mutual
  pub ValueNames : Value → Type 0
  ValueNames (tree.Variable p n) = IsWritten n
  ValueNames (tree.Array p vs) = ValuesNames vs
  ValueNames (tree.Object p ms) = MembersNames ms
  ValueNames _ = Unit {0}

  pub ValuesNames : Values → Type 0
  ValuesNames tree.no_value = Unit {0}
  ValuesNames (tree.and_value v vs) = ValueNames v × ValuesNames vs

  pub MembersNames : Members → Type 0
  MembersNames tree.no_member = Unit {0}
  MembersNames (tree.and_member p n v ms) = ValueNames v × MembersNames ms

abbrev pub ArgumentNames : Argument → Type 0
ArgumentNames a = IsWritten a.name × ValueNames a.value

abbrev pub DirectiveNames : Directive → Type 0
DirectiveNames d = IsWritten d.name × Each ArgumentNames d.arguments

abbrev pub ConditionNames : Condition → Type 0
ConditionNames c = IsWritten c.name

abbrev mutual
  pub SelectionNames : Selection → Type 0
  SelectionNames (tree.Field p alias n as' ds b) = Maybe IsWritten alias × IsWritten n × Each ArgumentNames as' × Each DirectiveNames ds × BelowNames b
  SelectionNames (tree.Spread p n ds) = IsWritten n × Each DirectiveNames ds
  SelectionNames (tree.Inline p c ds s) = Maybe ConditionNames c × Each DirectiveNames ds × SetNames s

  pub BelowNames : Below → Type 0
  BelowNames tree.nothing_below = Unit {0}
  BelowNames (tree.below s) = SetNames s

  pub SetNames : SelectionSet → Type 0
  SetNames (tree.set_at p ss) = SelectionsNames ss

  pub SelectionsNames : Selections → Type 0
  SelectionsNames tree.no_selection = Unit {0}
  SelectionsNames (tree.and_selection s ss) = SelectionNames s × SelectionsNames ss

abbrev pub VariableNames : VariableDefinition → Type 0
VariableNames v = IsWritten v.name × Each DirectiveNames v.directives

abbrev pub OperationNames : Operation → Type 0
OperationNames o = Maybe IsWritten o.name × Each VariableNames o.variables × Each DirectiveNames o.directives × SetNames o.selection_set

abbrev pub FragmentNames : Fragment → Type 0
FragmentNames f = IsWritten f.name × IsWritten f.condition.name × Each DirectiveNames f.directives × SetNames f.selection_set

pub record DocumentNames (d : Document) : Type 0 where
  pub operations : Each OperationNames d.operations
  pub fragments : Each FragmentNames d.fragments

-- ---- from tokens to trees

mutual
  value : {c : Constness} {v : Value} {before after : List Token} → IsValue c v before after → Each TokenNames before → ValueNames v × Each TokenNames after
  value variable h = (h.1.0, h.1.1)
  value (array vs) h = values vs h.1
  value (object ms) h = members ms h.1
  value v h = (tt, h.1)

  values : {c : Constness} {vs : Values} {before after : List Token} → AreValues c vs before after → Each TokenNames before → ValuesNames vs × Each TokenNames after
  values no_more_values h = (tt, h.1)
  values (next_value v vs) h = let x = value v h in let xs = values vs x.1 in ((x.0, xs.0), xs.1)

  members : {c : Constness} {ms : Members} {before after : List Token} → AreMembers c ms before after → Each TokenNames before → MembersNames ms × Each TokenNames after
  members no_more_members h = (tt, h.1)
  members (next_member v ms) h = let x = value v h.1.1 in let xs = members ms x.1 in ((x.0, xs.0), xs.1)

a_bang : {b : Bool} {before after : List Token} → IsBang b before after → Each TokenNames before → Each TokenNames after
a_bang no_bang h = h
a_bang bang h = h.1

a_type : {t : TypeTree} {before after : List Token} → IsType t before after → Each TokenNames before → Each TokenNames after
a_type (named b) h = a_bang b h.1
a_type (list_of t b) h = a_bang b (a_type t h.1).1

an_argument : {c : Constness} {a : Argument} {before after : List Token} → IsArgument c a before after → Each TokenNames before → ArgumentNames a × Each TokenNames after
an_argument (argument v) h = let x = value v h.1.1 in ((h.0, x.0), x.1)

some_arguments : {c : Constness} {as' : List Argument} {before after : List Token} → AreArguments c as' before after → Each TokenNames before → Each ArgumentNames as' × Each TokenNames after
some_arguments no_more_arguments h = (tt, h.1)
some_arguments (next_argument a others) h = let x = an_argument a h in let xs = some_arguments others x.1 in ((x.0, xs.0), xs.1)

optional_arguments : {c : Constness} {as' : List Argument} {before after : List Token} → AreOptionalArguments c as' before after → Each TokenNames before → Each ArgumentNames as' × Each TokenNames after
optional_arguments no_arguments h = (tt, h)
optional_arguments (arguments a others) h = let x = an_argument a h.1 in let xs = some_arguments others x.1 in ((x.0, xs.0), xs.1)

a_directive : {c : Constness} {d : Directive} {before after : List Token} → IsDirective c d before after → Each TokenNames before → DirectiveNames d × Each TokenNames after
a_directive (directive as') h = let x = optional_arguments as' h.1.1 in ((h.1.0, x.0), x.1)

directives : {c : Constness} {ds : List Directive} {before after : List Token} → AreDirectives c ds before after → Each TokenNames before → Each DirectiveNames ds × Each TokenNames after
directives no_directives h = (tt, h)
directives (next_directive d others) h = let x = a_directive d h in let xs = directives others x.1 in ((x.0, xs.0), xs.1)

field_name : {p : Place} {alias : Option (List ℕ)} {n : List ℕ} {before after : List Token} → IsFieldName p alias n before after → Each TokenNames before → Maybe IsWritten alias × IsWritten n × Each TokenNames after
field_name unaliased h = (tt, h.0, h.1)
field_name aliased h = (h.0, h.1.1.0, h.1.1.1)

a_condition : {c : Option Condition} {before after : List Token} → IsCondition c before after → Each TokenNames before → Maybe ConditionNames c × Each TokenNames after
a_condition no_condition h = (tt, h)
a_condition condition h = (h.1.0, h.1.1)

mutual
  selection : {s : Selection} {before after : List Token} → IsSelection s before after → Each TokenNames before → SelectionNames s × Each TokenNames after
  selection (field name as' ds b) h =
      let n = field_name name h in
      let a = optional_arguments as' n.2 in
      let d = directives ds a.1 in
      let s = optional_set b d.1 in
      ((n.0, n.1, a.0, d.0, s.0), s.1)
  selection (spread f ds) h = let d = directives ds h.1.1 in ((h.1.0, d.0), d.1)
  selection (inline c ds s) h =
      let x = a_condition c h.1 in
      let d = directives ds x.1 in
      let y = a_selection_set s d.1 in
      ((x.0, d.0, y.0), y.1)

  optional_set : {b : Below} {before after : List Token} → IsOptionalSet b before after → Each TokenNames before → BelowNames b × Each TokenNames after
  optional_set no_set h = (tt, h)
  optional_set (a_set s) h = a_selection_set s h

  a_selection_set : {s : SelectionSet} {before after : List Token} → IsSelectionSet s before after → Each TokenNames before → SetNames s × Each TokenNames after
  a_selection_set (selection_set s others) h = let x = selection s h.1 in let xs = selections others x.1 in ((x.0, xs.0), xs.1)

  selections : {ss : Selections} {before after : List Token} → AreSelections ss before after → Each TokenNames before → SelectionsNames ss × Each TokenNames after
  selections no_more_selections h = (tt, h.1)
  selections (next_selection s others) h = let x = selection s h in let xs = selections others x.1 in ((x.0, xs.0), xs.1)

a_default : {v : Option Value} {before after : List Token} → IsDefault v before after → Each TokenNames before → Each TokenNames after
a_default no_default h = h
a_default (default v) h = (value v h.1).1

a_variable : {v : VariableDefinition} {before after : List Token} → IsVariable v before after → Each TokenNames before → VariableNames v × Each TokenNames after
a_variable (variable_definition t v ds) h = let d = directives ds (a_default v (a_type t h.1.1.1)) in ((h.1.0, d.0), d.1)

some_variables : {vs : List VariableDefinition} {before after : List Token} → AreVariables vs before after → Each TokenNames before → Each VariableNames vs × Each TokenNames after
some_variables no_more_variables h = (tt, h.1)
some_variables (next_variable v others) h = let x = a_variable v h in let xs = some_variables others x.1 in ((x.0, xs.0), xs.1)

optional_variables : {vs : List VariableDefinition} {before after : List Token} → AreOptionalVariables vs before after → Each TokenNames before → Each VariableNames vs × Each TokenNames after
optional_variables no_variables h = (tt, h)
optional_variables (variables v others) h = let x = a_variable v h.1 in let xs = some_variables others x.1 in ((x.0, xs.0), xs.1)

optional_name : {n : Option (List ℕ)} {before after : List Token} → IsOptionalName n before after → Each TokenNames before → Maybe IsWritten n × Each TokenNames after
optional_name no_name h = (tt, h)
optional_name a_name h = (h.0, h.1)

an_operation : {o : Operation} {before after : List Token} → IsOperation o before after → Each TokenNames before → OperationNames o × Each TokenNames after
an_operation (shorthand s) h = let x = a_selection_set s h in ((tt, tt, tt, x.0), x.1)
an_operation (operation k n vs ds s) h =
    let x = optional_name n h.1 in
    let v = optional_variables vs x.1 in
    let d = directives ds v.1 in
    let y = a_selection_set s d.1 in
    ((x.0, v.0, d.0, y.0), y.1)

a_fragment : {f : Fragment} {before after : List Token} → IsFragment f before after → Each TokenNames before → FragmentNames f × Each TokenNames after
a_fragment (fragment k ds s) h =
    let d = directives ds h.1.1.1.1 in
    let y = a_selection_set s d.1 in
    ((h.1.0, h.1.1.1.0, d.0, y.0), y.1)

definitions : {os : List Operation} {fs : List Fragment} {tokens : List Token} → AreDefinitions os fs tokens → Each TokenNames tokens → Each OperationNames os × Each FragmentNames fs
definitions no_more_definitions h = (tt, tt)
definitions (next_operation o others) h = let x = an_operation o h in let xs = definitions others x.1 in ((x.0, xs.0), xs.1)
definitions (next_fragment f others) h = let x = a_fragment f h in let xs = definitions others x.1 in (xs.0, (x.0, xs.1))

pub document-names : (d : Document) (tokens : List Token) → IsDocument d tokens → Each TokenNames tokens → DocumentNames d
document-names d tokens is h = let x = definitions is.are h in record { operations = x.0; fragments = x.1 }
