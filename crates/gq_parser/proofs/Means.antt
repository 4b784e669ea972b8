-- Lemmas on what may come where a list of symbols is expected, and that a word changes it as the machine
-- says.
use Rattle.std.proofs.Common.{ℕ, Bool, List, [], ◌∷◌, ◌++◌, Option, Some, None, refl}
use Rattle.text_place.specs.declared.place.Place.{Place}
use Rattle.gq_lexer.specs.declared.token.Punct.TheVariants.{Bang, ParenLeft, Colon, Equals, At, BracketLeft, BracketRight, BraceLeft}
use Rattle.gq_parser.specs.declared.value.Constness.{Constness}
use Rattle.gq_parser.specs.declared.value.Constness.TheVariants.{Const, NotConst}
use Rattle.gq_parser.specs.declared.keyword.Keyword.{Keyword}
use Rattle.gq_parser.specs.declared.keyword.Keyword.TheVariants.{On}
use Rattle.gq_parser.specs.Keywords.{IsFragmentName}
use Rattle.gq_parser.specs.Word.{Word, Punct, Name, Token, at}
use Rattle.gq_parser.specs.Tree as tree
use Rattle.gq_parser.specs.Grammar.{IsValue, variable, int, float, text, yes, no, null, enum, array, object, AreValues, no_more_values, next_value, AreMembers, no_more_members, next_member}
use Rattle.gq_parser.specs.Grammar.{IsBang, no_bang, bang, IsType, named, list_of, IsArgument, argument, AreArguments, no_more_arguments, next_argument, AreOptionalArguments, no_arguments, arguments}
use Rattle.gq_parser.specs.Grammar.{directive, AreDirectives, no_directives, next_directive, unaliased, aliased, IsCondition, no_condition, condition}
use Rattle.gq_parser.specs.Grammar.{IsSelection, field, spread, inline, IsOptionalSet, no_set, a_set, IsSelectionSet, selection_set, AreSelections, no_more_selections, next_selection}
use Rattle.gq_parser.specs.Grammar.{IsDefault, no_default, default, IsVariable, variable_definition, AreVariables, no_more_variables, next_variable, AreOptionalVariables, no_variables, variables}
use Rattle.gq_parser.specs.Grammar.{IsOptionalName, no_name, a_name, query, mutation, subscription, IsOperation, shorthand, operation, IsFragment, fragment, AreDefinitions, next_operation, next_fragment}
use Rattle.gq_parser.specs.Machine.{Symbol, AName, AFragmentName, AnOn, AColon, AValue, MoreValues, MoreMembers, AType, ABracket, MaybeBang, MaybeArguments, MoreArguments, MaybeDirectives, AfterName, AfterDots, MaybeSet, ASet, FirstSelection, MoreSelections, MaybeDefault, FirstVariable, MoreVariables, MaybeVariables, MaybeName, ADefinition}
use Rattle.gq_parser.specs.Machine.{shift, an_operation_then}
use Rattle.gq_parser.specs.Parsing.{IsNotNext, IsNoName}

-- a symbol's tokens, and then what comes after. What may be left out is left out only where it isn't next.
pub data Derives : Symbol → List Token → List Token → Type 0 where
  d_name : {p : Place} {k : Keyword} {n : List ℕ} {after : List Token} → Derives AName (at p (Name k n) ∷ after) after
  d_fragment_name : {p : Place} {k : Keyword} {n : List ℕ} {after : List Token} → IsFragmentName k → Derives AFragmentName (at p (Name k n) ∷ after) after
  d_on : {p : Place} {n : List ℕ} {after : List Token} → Derives AnOn (at p (Name On n) ∷ after) after
  d_colon : {p : Place} {after : List Token} → Derives AColon (at p (Punct Colon) ∷ after) after
  d_value : {c : Constness} {v : tree.Value} {before after : List Token} → IsValue c v before after → Derives (AValue c) before after
  d_values : {c : Constness} {vs : tree.Values} {before after : List Token} → AreValues c vs before after → Derives (MoreValues c) before after
  d_members : {c : Constness} {ms : tree.Members} {before after : List Token} → AreMembers c ms before after → Derives (MoreMembers c) before after
  d_type : {p : Place} {k : Keyword} {n : List ℕ} {mid after : List Token} → Derives MaybeBang mid after → Derives AType (at p (Name k n) ∷ mid) after
  d_list_type : {p : Place} {mid mid' mid'' after : List Token} → Derives AType mid mid' → Derives ABracket mid' mid'' → Derives MaybeBang mid'' after → Derives AType (at p (Punct BracketLeft) ∷ mid) after
  d_bracket : {p : Place} {after : List Token} → Derives ABracket (at p (Punct BracketRight) ∷ after) after
  d_no_bang : {after : List Token} → IsNotNext (Punct Bang) after → Derives MaybeBang after after
  d_bang : {p : Place} {after : List Token} → Derives MaybeBang (at p (Punct Bang) ∷ after) after
  d_no_arguments : {c : Constness} {after : List Token} → IsNotNext (Punct ParenLeft) after → Derives (MaybeArguments c) after after
  d_arguments : {c : Constness} {p : Place} {a : tree.Argument} {others : List tree.Argument} {mid mid' after : List Token} → IsArgument c a mid mid' → AreArguments c others mid' after → Derives (MaybeArguments c) (at p (Punct ParenLeft) ∷ mid) after
  d_more_arguments : {c : Constness} {others : List tree.Argument} {before after : List Token} → AreArguments c others before after → Derives (MoreArguments c) before after
  d_no_directives : {c : Constness} {after : List Token} → IsNotNext (Punct At) after → Derives (MaybeDirectives c) after after
  d_directive : {c : Constness} {p q : Place} {k : Keyword} {n : List ℕ} {mid mid' after : List Token} → Derives (MaybeArguments c) mid mid' → Derives (MaybeDirectives c) mid' after → Derives (MaybeDirectives c) (at p (Punct At) ∷ at q (Name k n) ∷ mid) after
  d_no_alias : {after : List Token} → IsNotNext (Punct Colon) after → Derives AfterName after after
  d_alias : {p q : Place} {k : Keyword} {n : List ℕ} {after : List Token} → Derives AfterName (at p (Punct Colon) ∷ at q (Name k n) ∷ after) after
  d_spread : {p : Place} {k : Keyword} {n : List ℕ} {mid after : List Token} → IsFragmentName k → Derives (MaybeDirectives NotConst) mid after → Derives AfterDots (at p (Name k n) ∷ mid) after
  d_inline : {c : Option tree.Condition} {before mid mid' after : List Token} → IsCondition c before mid → Derives (MaybeDirectives NotConst) mid mid' → Derives ASet mid' after → Derives AfterDots before after
  d_no_set : {after : List Token} → IsNotNext (Punct BraceLeft) after → Derives MaybeSet after after
  d_maybe_set : {s : tree.SelectionSet} {before after : List Token} → IsSelectionSet s before after → Derives MaybeSet before after
  d_set : {s : tree.SelectionSet} {before after : List Token} → IsSelectionSet s before after → Derives ASet before after
  d_first : {s : tree.Selection} {others : tree.Selections} {before mid after : List Token} → IsSelection s before mid → AreSelections others mid after → Derives FirstSelection before after
  d_more : {others : tree.Selections} {before after : List Token} → AreSelections others before after → Derives MoreSelections before after
  d_no_default : {after : List Token} → IsNotNext (Punct Equals) after → Derives MaybeDefault after after
  d_default : {p : Place} {mid after : List Token} → Derives (AValue Const) mid after → Derives MaybeDefault (at p (Punct Equals) ∷ mid) after
  d_first_variable : {v : tree.VariableDefinition} {others : List tree.VariableDefinition} {before mid after : List Token} → IsVariable v before mid → AreVariables others mid after → Derives FirstVariable before after
  d_more_variables : {others : List tree.VariableDefinition} {before after : List Token} → AreVariables others before after → Derives MoreVariables before after
  d_no_variables : {after : List Token} → IsNotNext (Punct ParenLeft) after → Derives MaybeVariables after after
  d_variables : {p : Place} {mid after : List Token} → Derives FirstVariable mid after → Derives MaybeVariables (at p (Punct ParenLeft) ∷ mid) after
  d_no_name : {after : List Token} → IsNoName after → Derives MaybeName after after
  d_maybe_name : {p : Place} {k : Keyword} {n : List ℕ} {after : List Token} → Derives MaybeName (at p (Name k n) ∷ after) after
  d_operation : {o : tree.Operation} {before after : List Token} → IsOperation o before after → Derives ADefinition before after
  d_fragment : {f : tree.Fragment} {before after : List Token} → IsFragment f before after → Derives ADefinition before after

pub data Means : List Symbol → List Token → Type 0 where
  ends : {os : List tree.Operation} {fs : List tree.Fragment} {tokens : List Token} → AreDefinitions os fs tokens → Means [] tokens
  then' : {s : Symbol} {stack : List Symbol} {before mid : List Token} → Derives s before mid → Means stack mid → Means (s ∷ stack) before

abbrev pub Shifted : Option (List Symbol) → List Token → Type 0
Shifted None tokens = ⊥
Shifted (Some stack) tokens = Means stack tokens

-- ---- what comes after

-- says what comes after a field or a spread
pub record IsAfterField (tokens : List Token) : Type 0 where
  pub no_brace : IsNotNext (Punct BraceLeft) tokens
  pub no_parenthesis : IsNotNext (Punct ParenLeft) tokens
  pub no_colon : IsNotNext (Punct Colon) tokens
  pub no_at : IsNotNext (Punct At) tokens

pub after_field : {ss : tree.Selections} {before after : List Token} → AreSelections ss before after → IsAfterField before
after_field no_more_selections = record { no_brace = λ e. cc; no_parenthesis = λ e. cc; no_colon = λ e. cc; no_at = λ e. cc }
after_field (next_selection (field unaliased as' ds b) others) = record { no_brace = λ e. cc; no_parenthesis = λ e. cc; no_colon = λ e. cc; no_at = λ e. cc }
after_field (next_selection (field aliased as' ds b) others) = record { no_brace = λ e. cc; no_parenthesis = λ e. cc; no_colon = λ e. cc; no_at = λ e. cc }
after_field (next_selection (spread h ds) others) = record { no_brace = λ e. cc; no_parenthesis = λ e. cc; no_colon = λ e. cc; no_at = λ e. cc }
after_field (next_selection (inline c ds s) others) = record { no_brace = λ e. cc; no_parenthesis = λ e. cc; no_colon = λ e. cc; no_at = λ e. cc }

-- says what comes after directives
pub record IsAfterDirectives (tokens : List Token) : Type 0 where
  pub no_parenthesis : IsNotNext (Punct ParenLeft) tokens
  pub no_colon : IsNotNext (Punct Colon) tokens
  pub no_at : IsNotNext (Punct At) tokens

pub field_ends : {tokens : List Token} → IsAfterField tokens → IsAfterDirectives tokens
field_ends h = record { no_parenthesis = h.no_parenthesis; no_colon = h.no_colon; no_at = h.no_at }

pub set_follows : {s : tree.SelectionSet} {before mid : List Token} → IsSelectionSet s before mid → IsAfterDirectives before
set_follows (selection_set s others) = record { no_parenthesis = λ e. cc; no_colon = λ e. cc; no_at = λ e. cc }

pub after_directives : {b : tree.Below} {before mid : List Token} → IsOptionalSet b before mid → IsAfterField mid → IsAfterDirectives before
after_directives no_set h = field_ends h
after_directives (a_set s) h = set_follows s

-- says what comes after arguments
pub record IsAfterArguments (tokens : List Token) : Type 0 where
  pub no_parenthesis : IsNotNext (Punct ParenLeft) tokens
  pub no_colon : IsNotNext (Punct Colon) tokens

pub after_arguments : {c : Constness} {ds : List tree.Directive} {before mid : List Token} → AreDirectives c ds before mid → IsAfterDirectives mid → IsAfterArguments before
after_arguments no_directives h = record { no_parenthesis = h.no_parenthesis; no_colon = h.no_colon }
after_arguments (next_directive (directive as') others) h = record { no_parenthesis = λ e. cc; no_colon = λ e. cc }

pub after_name : {c : Constness} {as' : List tree.Argument} {before mid : List Token} → AreOptionalArguments c as' before mid → IsAfterArguments mid → IsNotNext (Punct Colon) before
after_name no_arguments h = h.no_colon
after_name (arguments a others) h = λ e. cc

-- says what comes after a variable's definition
pub record IsAfterVariable (tokens : List Token) : Type 0 where
  pub directives : IsAfterDirectives tokens
  pub no_equals : IsNotNext (Punct Equals) tokens
  pub no_bang : IsNotNext (Punct Bang) tokens

pub after_variable : {vs : List tree.VariableDefinition} {before after : List Token} → AreVariables vs before after → IsAfterVariable before
after_variable no_more_variables = record { directives = record { no_parenthesis = λ e. cc; no_colon = λ e. cc; no_at = λ e. cc }; no_equals = λ e. cc; no_bang = λ e. cc }
after_variable (next_variable (variable_definition t d ds) others) = record { directives = record { no_parenthesis = λ e. cc; no_colon = λ e. cc; no_at = λ e. cc }; no_equals = λ e. cc; no_bang = λ e. cc }

-- tokens after a default, and after a type
pub after_default : {ds : List tree.Directive} {before mid : List Token} → AreDirectives Const ds before mid → IsAfterVariable mid → IsNotNext (Punct Equals) before × IsNotNext (Punct Bang) before
after_default no_directives h = (h.no_equals, h.no_bang)
after_default (next_directive (directive as') others) h = (λ e. cc, λ e. cc)

pub after_type : {d : Option tree.Value} {before mid : List Token} → IsDefault d before mid → IsNotNext (Punct Bang) mid → IsNotNext (Punct Bang) before
after_type no_default h = h
after_type (default v) h = λ e. cc

-- tokens after an operation's name, and after its variables
pub directives_first : {c : Constness} {ds : List tree.Directive} {s : tree.SelectionSet} {before mid after : List Token} → AreDirectives c ds before mid → IsSelectionSet s mid after → IsNotNext (Punct ParenLeft) before
directives_first no_directives s = (set_follows s).no_parenthesis
directives_first (next_directive (directive as') others) s = λ e. cc

-- no directives and no braces begin with a name
pub nameless : {c : Constness} {ds : List tree.Directive} {s : tree.SelectionSet} {before mid after : List Token} → AreDirectives c ds before mid → IsSelectionSet s mid after → IsNoName before
nameless no_directives (selection_set s others) = tt
nameless (next_directive (directive as') others) s = tt

pub nameless_variables : {vs : List tree.VariableDefinition} {before mid : List Token} → AreOptionalVariables vs before mid → IsNoName mid → IsNoName before
nameless_variables no_variables h = h
nameless_variables (variables v others) h = tt

-- ---- from the grammar to the symbols

set_derives : {b : tree.Below} {before mid : List Token} → IsOptionalSet b before mid → IsAfterField mid → Derives MaybeSet before mid
set_derives no_set h = d_no_set h.no_brace
set_derives (a_set s) h = d_maybe_set s

arguments_derive : {c : Constness} {as' : List tree.Argument} {before mid : List Token} → AreOptionalArguments c as' before mid → IsAfterArguments mid → Derives (MaybeArguments c) before mid
arguments_derive no_arguments h = d_no_arguments h.no_parenthesis
arguments_derive (arguments a others) h = d_arguments a others

directives_derive : {c : Constness} {ds : List tree.Directive} {before mid : List Token} → AreDirectives c ds before mid → IsAfterDirectives mid → Derives (MaybeDirectives c) before mid
directives_derive no_directives h = d_no_directives h.no_at
directives_derive (next_directive (directive as') others) h = d_directive (arguments_derive as' (after_arguments others h)) (directives_derive others h)

bang_derives : {b : Bool} {before mid : List Token} → IsBang b before mid → IsNotNext (Punct Bang) mid → Derives MaybeBang before mid
bang_derives no_bang h = d_no_bang h
bang_derives bang h = d_bang

type_derives : {t : tree.TypeTree} {before mid : List Token} → IsType t before mid → IsNotNext (Punct Bang) mid → Derives AType before mid
type_derives (named b) h = d_type (bang_derives b h)
type_derives (list_of t b) h = d_list_type (type_derives t (λ e. cc)) d_bracket (bang_derives b h)

default_derives : {d : Option tree.Value} {before mid : List Token} → IsDefault d before mid → IsNotNext (Punct Equals) mid → Derives MaybeDefault before mid
default_derives no_default h = d_no_default h
default_derives (default v) h = d_default (d_value v)

name_derives : {n : Option (List ℕ)} {before mid : List Token} → IsOptionalName n before mid → IsNoName mid → Derives MaybeName before mid
name_derives no_name h = d_no_name h
name_derives a_name h = d_maybe_name

variables_derive : {vs : List tree.VariableDefinition} {before mid : List Token} → AreOptionalVariables vs before mid → IsNotNext (Punct ParenLeft) mid → Derives MaybeVariables before mid
variables_derive no_variables h = d_no_variables h
variables_derive (variables v others) h = d_variables (d_first_variable v others)

-- ---- from the tokens to the machine

value_shifts : {c : Constness} {v : tree.Value} {p : Place} {w : Word} {tokens mid : List Token} {stack : List Symbol} → IsValue c v (at p w ∷ tokens) mid → Means stack mid → Shifted (shift (AValue c ∷ stack) w) tokens
value_shifts int rest = rest
value_shifts float rest = rest
value_shifts text rest = rest
value_shifts yes rest = rest
value_shifts no rest = rest
value_shifts null rest = rest
value_shifts (enum h) rest = rest
value_shifts variable rest = then' d_name rest
value_shifts (array vs) rest = then' (d_values vs) rest
value_shifts (object ms) rest = then' (d_members ms) rest

values_shift : {c : Constness} {vs : tree.Values} {p : Place} {w : Word} {tokens mid : List Token} {stack : List Symbol} → AreValues c vs (at p w ∷ tokens) mid → Means stack mid → Shifted (shift (MoreValues c ∷ stack) w) tokens
values_shift no_more_values rest = rest
values_shift (next_value int vs) rest = then' (d_values vs) rest
values_shift (next_value float vs) rest = then' (d_values vs) rest
values_shift (next_value text vs) rest = then' (d_values vs) rest
values_shift (next_value yes vs) rest = then' (d_values vs) rest
values_shift (next_value no vs) rest = then' (d_values vs) rest
values_shift (next_value null vs) rest = then' (d_values vs) rest
values_shift (next_value (enum h) vs) rest = then' (d_values vs) rest
values_shift (next_value variable vs) rest = then' d_name (then' (d_values vs) rest)
values_shift (next_value (array ws) vs) rest = then' (d_values ws) (then' (d_values vs) rest)
values_shift (next_value (object ms) vs) rest = then' (d_members ms) (then' (d_values vs) rest)

members_shift : {c : Constness} {ms : tree.Members} {p : Place} {w : Word} {tokens mid : List Token} {stack : List Symbol} → AreMembers c ms (at p w ∷ tokens) mid → Means stack mid → Shifted (shift (MoreMembers c ∷ stack) w) tokens
members_shift no_more_members rest = rest
members_shift (next_member v ms) rest = then' d_colon (then' (d_value v) (then' (d_members ms) rest))

argument_means : {c : Constness} {a : tree.Argument} {others : List tree.Argument} {before mid after : List Token} {stack : List Symbol} → IsArgument c a before mid → AreArguments c others mid after → Means stack after
    → Means (AName ∷ AColon ∷ AValue c ∷ MoreArguments c ∷ stack) before
argument_means (argument v) others rest = then' d_name (then' d_colon (then' (d_value v) (then' (d_more_arguments others) rest)))

arguments_shift : {c : Constness} {others : List tree.Argument} {p : Place} {w : Word} {tokens mid : List Token} {stack : List Symbol} → AreArguments c others (at p w ∷ tokens) mid → Means stack mid → Shifted (shift (MoreArguments c ∷ stack) w) tokens
arguments_shift no_more_arguments rest = rest
arguments_shift (next_argument (argument v) others) rest = then' d_colon (then' (d_value v) (then' (d_more_arguments others) rest))

-- a spread's name is not `on`
spread_shifts : (k : Keyword) (n : List ℕ) (tokens : List Token) (stack : List Symbol) → IsFragmentName k → Means (MaybeDirectives NotConst ∷ stack) tokens → Shifted (shift (AfterDots ∷ stack) (Name k n)) tokens
spread_shifts On n tokens stack h rest = absurd h
spread_shifts _ n tokens stack h rest = rest

fragment_name_shifts : (k : Keyword) (n : List ℕ) (tokens : List Token) (stack : List Symbol) → IsFragmentName k → Means stack tokens → Shifted (shift (AFragmentName ∷ stack) (Name k n)) tokens
fragment_name_shifts On n tokens stack h rest = absurd h
fragment_name_shifts _ n tokens stack h rest = rest

-- a selection, and what comes after it
selection_shifts : {s : tree.Selection} {others : tree.Selections} {p : Place} {w : Word} {tokens mid after : List Token} {stack : List Symbol}
    → IsSelection s (at p w ∷ tokens) mid → AreSelections others mid after → Means stack after → Shifted (shift (FirstSelection ∷ stack) w) tokens
selection_shifts (field unaliased as' ds b) others rest =
    let f = after_field others in
    let g = after_directives b f in
    let k = after_arguments ds g in
    then' (d_no_alias (after_name as' k)) (then' (arguments_derive as' k) (then' (directives_derive ds g) (then' (set_derives b f) (then' (d_more others) rest))))
selection_shifts (field aliased as' ds b) others rest =
    let f = after_field others in
    let g = after_directives b f in
    then' d_alias (then' (arguments_derive as' (after_arguments ds g)) (then' (directives_derive ds g) (then' (set_derives b f) (then' (d_more others) rest))))
selection_shifts (spread h ds) others rest = then' (d_spread h (directives_derive ds (field_ends (after_field others)))) (then' (d_more others) rest)
selection_shifts (inline c ds s) others rest = then' (d_inline c (directives_derive ds (set_follows s)) (d_set s)) (then' (d_more others) rest)

selections_shift : {ss : tree.Selections} {p : Place} {w : Word} {tokens mid : List Token} {stack : List Symbol} → AreSelections ss (at p w ∷ tokens) mid → Means stack mid → Shifted (shift (MoreSelections ∷ stack) w) tokens
selections_shift no_more_selections rest = rest
selections_shift {p = p} (next_selection (field (unaliased {k = k} {n = n}) as' ds b) others) rest = selection_shifts {p = p} (field (unaliased {k = k} {n = n}) as' ds b) others rest
selections_shift {p = p} (next_selection (field (aliased {k = k} {a = a}) as' ds b) others) rest = selection_shifts {p = p} (field (aliased {k = k} {a = a}) as' ds b) others rest
selections_shift {p = p} (next_selection (spread h ds) others) rest = selection_shifts {p = p} (spread h ds) others rest
selections_shift {p = p} (next_selection (inline c ds s) others) rest = selection_shifts {p = p} (inline c ds s) others rest

-- a variable's definition, and what comes after it
variable_means : {t : tree.TypeTree} {d : Option tree.Value} {ds : List tree.Directive} {others : List tree.VariableDefinition} {p q : Place} {k : Keyword} {n : List ℕ} {mid mid' mid'' mid''' after : List Token} {stack : List Symbol}
    → IsType t mid mid' → IsDefault d mid' mid'' → AreDirectives Const ds mid'' mid''' → AreVariables others mid''' after → Means stack after
    → Means (AName ∷ AColon ∷ AType ∷ MaybeDefault ∷ MaybeDirectives Const ∷ MoreVariables ∷ stack) (at p (Name k n) ∷ at q (Punct Colon) ∷ mid)
variable_means t d ds others rest =
    let f = after_variable others in
    let g = after_default ds f in
    then' d_name (then' d_colon (then' (type_derives t (after_type d g.1)) (then' (default_derives d g.0) (then' (directives_derive ds f.directives) (then' (d_more_variables others) rest)))))

first_variable_shifts : {v : tree.VariableDefinition} {others : List tree.VariableDefinition} {p : Place} {w : Word} {tokens mid after : List Token} {stack : List Symbol}
    → IsVariable v (at p w ∷ tokens) mid → AreVariables others mid after → Means stack after → Shifted (shift (FirstVariable ∷ stack) w) tokens
first_variable_shifts (variable_definition t d ds) others rest = variable_means t d ds others rest

variables_shift : {vs : List tree.VariableDefinition} {p : Place} {w : Word} {tokens mid : List Token} {stack : List Symbol} → AreVariables vs (at p w ∷ tokens) mid → Means stack mid → Shifted (shift (MoreVariables ∷ stack) w) tokens
variables_shift no_more_variables rest = rest
variables_shift (next_variable (variable_definition t d ds) others) rest = variable_means t d ds others rest

-- a definition
operation_means : {n : Option (List ℕ)} {vs : List tree.VariableDefinition} {ds : List tree.Directive} {s : tree.SelectionSet} {before mid mid' mid'' after : List Token} {stack : List Symbol}
    → IsOptionalName n before mid → AreOptionalVariables vs mid mid' → AreDirectives NotConst ds mid' mid'' → IsSelectionSet s mid'' after → Means stack after → Means (an_operation_then ++ stack) before
operation_means n vs ds s rest =
    then' (name_derives n (nameless_variables vs (nameless ds s))) (then' (variables_derive vs (directives_first ds s)) (then' (directives_derive ds (set_follows s)) (then' (d_set s) rest)))

operation_shifts : {o : tree.Operation} {p : Place} {w : Word} {tokens after : List Token} {stack : List Symbol} → IsOperation o (at p w ∷ tokens) after → Means stack after → Shifted (shift (ADefinition ∷ stack) w) tokens
operation_shifts (shorthand (selection_set s ss)) rest = then' (d_first s ss) rest
operation_shifts (operation query n vs ds s) rest = operation_means n vs ds s rest
operation_shifts (operation mutation n vs ds s) rest = operation_means n vs ds s rest
operation_shifts (operation subscription n vs ds s) rest = operation_means n vs ds s rest

fragment_shifts : {f : tree.Fragment} {p : Place} {w : Word} {tokens after : List Token} {stack : List Symbol} → IsFragment f (at p w ∷ tokens) after → Means stack after → Shifted (shift (ADefinition ∷ stack) w) tokens
fragment_shifts (fragment h ds s) rest = then' (d_fragment_name h) (then' d_on (then' d_name (then' (directives_derive ds (set_follows s)) (then' (d_set s) rest))))

definitions_shift : {os : List tree.Operation} {fs : List tree.Fragment} {p : Place} {w : Word} {tokens : List Token} → AreDefinitions os fs (at p w ∷ tokens) → Shifted (shift [] w) tokens
definitions_shift (next_operation (shorthand (selection_set s ss)) others) = then' (d_first s ss) (ends others)
definitions_shift (next_operation (operation query n vs ds s) others) = operation_means n vs ds s (ends others)
definitions_shift (next_operation (operation mutation n vs ds s) others) = operation_means n vs ds s (ends others)
definitions_shift (next_operation (operation subscription n vs ds s) others) = operation_means n vs ds s (ends others)
definitions_shift (next_fragment (fragment h ds s) others) = then' (d_fragment_name h) (then' d_on (then' d_name (then' (directives_derive ds (set_follows s)) (then' (d_set s) (ends others)))))

pub shifts : {stack : List Symbol} {p : Place} {w : Word} {tokens : List Token} → Means stack (at p w ∷ tokens) → Shifted (shift stack w) tokens
shifts (ends others) = definitions_shift others
shifts (then' d_name rest) = rest
shifts {tokens = tokens} (then' {stack = stack} (d_fragment_name {k = k} {n = n} h) rest) = fragment_name_shifts k n tokens stack h rest
shifts (then' d_on rest) = rest
shifts (then' d_colon rest) = rest
shifts (then' (d_value v) rest) = value_shifts v rest
shifts (then' (d_values vs) rest) = values_shift vs rest
shifts (then' (d_members ms) rest) = members_shift ms rest
shifts (then' (d_type b) rest) = then' b rest
shifts (then' (d_list_type t b c) rest) = then' t (then' b (then' c rest))
shifts (then' d_bracket rest) = rest
shifts {w = Punct Bang} (then' (d_no_bang h) rest) = absurd (h refl)
shifts {w = _} (then' (d_no_bang h) rest) = shifts rest
shifts (then' d_bang rest) = rest
shifts {w = Punct ParenLeft} (then' (d_no_arguments h) rest) = absurd (h refl)
shifts {w = _} (then' (d_no_arguments h) rest) = shifts rest
shifts (then' (d_arguments a others) rest) = argument_means a others rest
shifts (then' (d_more_arguments others) rest) = arguments_shift others rest
shifts {w = Punct At} (then' (d_no_directives h) rest) = absurd (h refl)
shifts {w = _} (then' (d_no_directives h) rest) = shifts rest
shifts (then' (d_directive as' ds) rest) = then' d_name (then' as' (then' ds rest))
shifts {w = Punct Colon} (then' (d_no_alias h) rest) = absurd (h refl)
shifts {w = _} (then' (d_no_alias h) rest) = shifts rest
shifts (then' d_alias rest) = then' d_name rest
shifts {tokens = tokens} (then' {stack = stack} (d_spread {k = k} {n = n} h ds) rest) = spread_shifts k n tokens stack h (then' ds rest)
shifts (then' (d_inline no_condition (d_no_directives h) (d_set (selection_set s ss))) rest) = then' (d_first s ss) rest
shifts (then' (d_inline no_condition (d_directive as' ds) s) rest) = then' d_name (then' as' (then' ds (then' s rest)))
shifts (then' (d_inline condition ds s) rest) = then' d_name (then' ds (then' s rest))
shifts {w = Punct BraceLeft} (then' (d_no_set h) rest) = absurd (h refl)
shifts {w = _} (then' (d_no_set h) rest) = shifts rest
shifts (then' (d_maybe_set (selection_set s ss)) rest) = then' (d_first s ss) rest
shifts (then' (d_set (selection_set s ss)) rest) = then' (d_first s ss) rest
shifts (then' (d_first s ss) rest) = selection_shifts s ss rest
shifts (then' (d_more ss) rest) = selections_shift ss rest
shifts {w = Punct Equals} (then' (d_no_default h) rest) = absurd (h refl)
shifts {w = _} (then' (d_no_default h) rest) = shifts rest
shifts (then' (d_default v) rest) = then' v rest
shifts (then' (d_first_variable v others) rest) = first_variable_shifts v others rest
shifts (then' (d_more_variables others) rest) = variables_shift others rest
shifts {w = Punct ParenLeft} (then' (d_no_variables h) rest) = absurd (h refl)
shifts {w = _} (then' (d_no_variables h) rest) = shifts rest
shifts (then' (d_variables v) rest) = then' v rest
shifts {w = Name k n} (then' (d_no_name h) rest) = absurd h
shifts {w = _} (then' (d_no_name h) rest) = shifts rest
shifts (then' d_maybe_name rest) = rest
shifts (then' (d_operation o) rest) = operation_shifts o rest
shifts (then' (d_fragment f) rest) = fragment_shifts f rest
