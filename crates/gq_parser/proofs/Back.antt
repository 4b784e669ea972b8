-- Lemmas on what the machine lets come, comes in the grammar too.
use Rattle.std.specs.Prelude.{codes}
use Rattle.std.proofs.Common.{◌≡◌, ℕ, Bool, true, false, List, [], ◌∷◌, ◌++◌, Option, Some, None, refl}
use Rattle.text_place.specs.declared.place.Place.{Place}
use Rattle.gq_lexer.specs.declared.token.Punct.TheVariants.{Bang, Dollar, ParenLeft, ParenRight, Colon, Equals, At, BracketLeft, BracketRight, BraceLeft, BraceRight}
use Rattle.gq_lexer.specs.declared.token.Punct.TheVariants as punct
use Rattle.gq_parser.specs.declared.value.Constness.{Constness}
use Rattle.gq_parser.specs.declared.value.Constness.TheVariants.{Const, NotConst}
use Rattle.gq_parser.specs.declared.keyword.Keyword.{Keyword}
use Rattle.gq_parser.specs.declared.keyword.Keyword.TheVariants.{Query, Mutation, Subscription, Fragment, On, True, False, Null, Other}
use Rattle.gq_parser.specs.declared.tree.OperationKind.{OperationKind}
use Rattle.gq_parser.specs.declared.tree.OperationKind.TheVariants as kind
use Rattle.gq_parser.specs.Keywords.{keyword_of}
use Rattle.gq_parser.specs.Word.{Word, Punct, Name, Int, Float, Text, Token, at, AreSpelled}
use Rattle.gq_parser.specs.Tree as tree
use Rattle.gq_parser.specs.Grammar.{IsValue, variable, int, float, text, yes, no, null, enum, array, object, no_more_values, next_value, no_more_members, next_member}
use Rattle.gq_parser.specs.Grammar.{IsBang, no_bang, bang, IsType, named, list_of, argument, no_more_arguments, next_argument, AreOptionalArguments, no_arguments, arguments}
use Rattle.gq_parser.specs.Grammar.{directive, AreDirectives, no_directives, next_directive, IsFieldName, unaliased, aliased, no_condition, condition}
use Rattle.gq_parser.specs.Grammar.{IsSelection, field, spread, inline, IsOptionalSet, no_set, a_set, IsSelectionSet, selection_set, AreSelections, no_more_selections, next_selection}
use Rattle.gq_parser.specs.Grammar.{IsDefault, no_default, default, IsVariable, variable_definition, AreVariables, no_more_variables, next_variable, AreOptionalVariables, no_variables, variables}
use Rattle.gq_parser.specs.Grammar.{IsOptionalName, no_name, a_name, IsKind, query, mutation, subscription, IsOperation, shorthand, operation, IsFragment, fragment, no_more_definitions, next_operation, next_fragment}
use Rattle.gq_parser.specs.Machine.{Symbol, AName, AFragmentName, AnOn, AColon, AValue, MoreValues, MoreMembers, AType, ABracket, MaybeBang, MaybeArguments, MoreArguments, MaybeDirectives, AfterName, AfterDots, MaybeSet, ASet, FirstSelection, MoreSelections, MaybeDefault, FirstVariable, MoreVariables, MaybeVariables, MaybeName, ADefinition}
use Rattle.gq_parser.specs.Machine.{shift, Done, at_end, an_operation_then, a_fragment_then}
use Rattle.gq_parser.specs.Parsing.{IsNotNext}
use Rattle.gq_parser.proofs.Means.{Derives, d_name, d_fragment_name, d_on, d_colon, d_value, d_values, d_members, d_type, d_list_type, d_bracket, d_no_bang, d_bang, d_no_arguments, d_arguments, d_more_arguments, d_no_directives, d_directive, d_no_alias, d_alias}
use Rattle.gq_parser.proofs.Means.{d_spread, d_inline, d_no_set, d_maybe_set, d_set, d_first, d_more, d_no_default, d_default, d_first_variable, d_more_variables, d_no_variables, d_variables, d_no_name, d_maybe_name, d_operation, d_fragment, Means, ends, then', Shifted}

-- ---- from the symbols to the grammar

-- the value that a name is
name_value : (c : Constness) (p : Place) (k : Keyword) (n : List ℕ) (after : List Token) → (v : tree.Value) × IsValue c v (at p (Name k n) ∷ after) after
name_value c p True n after = (_, yes)
name_value c p False n after = (_, no)
name_value c p Null n after = (_, null)
name_value c p Query n after = (tree.Enum p n, enum tt)
name_value c p Mutation n after = (tree.Enum p n, enum tt)
name_value c p Subscription n after = (tree.Enum p n, enum tt)
name_value c p Fragment n after = (tree.Enum p n, enum tt)
name_value c p On n after = (tree.Enum p n, enum tt)
name_value c p Other n after = (tree.Enum p n, enum tt)

bang_back : {tokens mid : List Token} → Derives MaybeBang tokens mid → (b : Bool) × IsBang b tokens mid
bang_back (d_no_bang h) = (false, no_bang)
bang_back d_bang = (true, bang)

type_back : {tokens mid : List Token} → Derives AType tokens mid → (t : tree.TypeTree) × IsType t tokens mid
type_back (d_type b) = (_, named (bang_back b).1)
type_back (d_list_type t d_bracket b) = (_, list_of (type_back t).1 (bang_back b).1)

default_back : {tokens mid : List Token} → Derives MaybeDefault tokens mid → (d : Option tree.Value) × IsDefault d tokens mid
default_back (d_no_default h) = (None, no_default)
default_back (d_default (d_value v)) = (_, default v)

field_name_back : {p : Place} {k : Keyword} {n : List ℕ} {tokens mid : List Token} → Derives AfterName tokens mid → (alias : Option (List ℕ)) × (m : List ℕ) × IsFieldName p alias m (at p (Name k n) ∷ tokens) mid
field_name_back (d_no_alias h) = (None, _, unaliased)
field_name_back {n = n} d_alias = (Some n, _, aliased)

arguments_back : {c : Constness} {tokens mid : List Token} → Derives (MaybeArguments c) tokens mid → (as' : List tree.Argument) × AreOptionalArguments c as' tokens mid
arguments_back (d_no_arguments h) = ([], no_arguments)
arguments_back (d_arguments a others) = (_, arguments a others)

directives_back : {c : Constness} {tokens mid : List Token} → Derives (MaybeDirectives c) tokens mid → (ds : List tree.Directive) × AreDirectives c ds tokens mid
directives_back (d_no_directives h) = ([], no_directives)
directives_back (d_directive as' ds) = (_, next_directive (directive (arguments_back as').1) (directives_back ds).1)

dots_back : {p : Place} {tokens mid : List Token} → Derives AfterDots tokens mid → (s : tree.Selection) × IsSelection s (at p (Punct punct.Spread) ∷ tokens) mid
dots_back {p = p} (d_spread {n = n} h ds) = (tree.Spread p n (directives_back ds).0, spread h (directives_back ds).1)
dots_back (d_inline c ds (d_set s)) = (_, inline c (directives_back ds).1 s)

set_back : {tokens mid : List Token} → Derives MaybeSet tokens mid → (b : tree.Below) × IsOptionalSet b tokens mid
set_back (d_no_set h) = (tree.nothing_below, no_set)
set_back (d_maybe_set s) = (_, a_set s)

record FieldBack (p : Place) (k : Keyword) (n : List ℕ) (tokens : List Token) (stack : List Symbol) : Type 0 where
  selection : tree.Selection
  others : tree.Selections
  mid : List Token
  after : List Token
  is : IsSelection selection (at p (Name k n) ∷ tokens) mid
  more : AreSelections others mid after
  rest : Means stack after

field_back : (p : Place) (k : Keyword) (n : List ℕ) (tokens : List Token) (stack : List Symbol) → Means (AfterName ∷ MaybeArguments NotConst ∷ MaybeDirectives NotConst ∷ MaybeSet ∷ MoreSelections ∷ stack) tokens → FieldBack p k n tokens stack
field_back p k n tokens stack (then' name (then' as' (then' ds (then' b (then' (d_more others) rest))))) = record {
  selection = tree.Field p (field_name_back {p = p} {k = k} {n = n} name).0 (field_name_back {p = p} {k = k} {n = n} name).1 (arguments_back as').0 (directives_back ds).0 (set_back b).0;
  others = _;
  mid = _;
  after = _;
  is = field (field_name_back {p = p} {k = k} {n = n} name).2 (arguments_back as').1 (directives_back ds).1 (set_back b).1;
  more = others;
  rest = rest;
}

record VariableBack (p : Place) (tokens : List Token) (stack : List Symbol) : Type 0 where
  definition : tree.VariableDefinition
  others : List tree.VariableDefinition
  mid : List Token
  after : List Token
  is : IsVariable definition (at p (Punct Dollar) ∷ tokens) mid
  more : AreVariables others mid after
  rest : Means stack after

variable_back : (p : Place) (tokens : List Token) (stack : List Symbol) → Means (AName ∷ AColon ∷ AType ∷ MaybeDefault ∷ MaybeDirectives Const ∷ MoreVariables ∷ stack) tokens → VariableBack p tokens stack
variable_back p tokens stack (then' (d_name {n = n}) (then' d_colon (then' t (then' d (then' ds (then' (d_more_variables others) rest)))))) = record {
  definition = record { place = p; name = n; of_type = (type_back t).0; default = (default_back d).0; directives = (directives_back ds).0 };
  others = _;
  mid = _;
  after = _;
  is = variable_definition (type_back t).1 (default_back d).1 (directives_back ds).1;
  more = others;
  rest = rest;
}

variables_back : {tokens mid : List Token} → Derives MaybeVariables tokens mid → (vs : List tree.VariableDefinition) × AreOptionalVariables vs tokens mid
variables_back (d_no_variables h) = ([], no_variables)
variables_back (d_variables (d_first_variable v others)) = (_, variables v others)

name_back : {tokens mid : List Token} → Derives MaybeName tokens mid → (n : Option (List ℕ)) × IsOptionalName n tokens mid
name_back (d_no_name h) = (None, no_name)
name_back d_maybe_name = (_, a_name)

record OperationBack (p : Place) (k : Keyword) (w : List ℕ) (tokens : List Token) (stack : List Symbol) : Type 0 where
  definition : tree.Operation
  after : List Token
  is : IsOperation definition (at p (Name k w) ∷ tokens) after
  rest : Means stack after

operation_back : (p : Place) (o : OperationKind) (k : Keyword) (w : List ℕ) (tokens : List Token) (stack : List Symbol) → IsKind o k → Means (an_operation_then ++ stack) tokens → OperationBack p k w tokens stack
operation_back p o k w tokens stack h (then' n (then' vs (then' ds (then' (d_set {s = s} set) rest)))) = record {
  definition = record { place = p; kind = o; name = (name_back n).0; variables = (variables_back vs).0; directives = (directives_back ds).0; selection_set = s };
  after = _;
  is = operation h (name_back n).1 (variables_back vs).1 (directives_back ds).1 set;
  rest = rest;
}

record FragmentBack (p : Place) (w : List ℕ) (tokens : List Token) (stack : List Symbol) : Type 0 where
  definition : tree.Fragment
  after : List Token
  is : IsFragment definition (at p (Name Fragment w) ∷ tokens) after
  rest : Means stack after

fragment_back : (p : Place) (w : List ℕ) (tokens : List Token) (stack : List Symbol) → Means (a_fragment_then ++ stack) tokens → FragmentBack p w tokens stack
fragment_back p w tokens stack (then' (d_fragment_name {n = n} h) (then' d_on (then' (d_name {p = q} {n = t}) (then' ds (then' (d_set {s = s} set) rest))))) = record {
  definition = record { place = p; name = n; condition = record { place = q; name = t }; directives = (directives_back ds).0; selection_set = s };
  after = _;
  is = fragment h (directives_back ds).1 set;
  rest = rest;
}

name_after_dots : (p : Place) (k : Keyword) (n : List ℕ) (tokens : List Token) (stack : List Symbol) → Shifted (shift (AfterDots ∷ stack) (Name k n)) tokens → Means (AfterDots ∷ stack) (at p (Name k n) ∷ tokens)
name_after_dots p On n tokens stack (then' d_name (then' ds (then' s rest))) = then' (d_inline condition ds s) rest
name_after_dots p Query n tokens stack (then' ds rest) = then' (d_spread tt ds) rest
name_after_dots p Mutation n tokens stack (then' ds rest) = then' (d_spread tt ds) rest
name_after_dots p Subscription n tokens stack (then' ds rest) = then' (d_spread tt ds) rest
name_after_dots p Fragment n tokens stack (then' ds rest) = then' (d_spread tt ds) rest
name_after_dots p True n tokens stack (then' ds rest) = then' (d_spread tt ds) rest
name_after_dots p False n tokens stack (then' ds rest) = then' (d_spread tt ds) rest
name_after_dots p Null n tokens stack (then' ds rest) = then' (d_spread tt ds) rest
name_after_dots p Other n tokens stack (then' ds rest) = then' (d_spread tt ds) rest

fragment_name_comes : (p : Place) (k : Keyword) (n : List ℕ) (tokens : List Token) (stack : List Symbol) → Shifted (shift (AFragmentName ∷ stack) (Name k n)) tokens → Means (AFragmentName ∷ stack) (at p (Name k n) ∷ tokens)
fragment_name_comes p On n tokens stack h = absurd h
fragment_name_comes p Query n tokens stack h = then' (d_fragment_name tt) h
fragment_name_comes p Mutation n tokens stack h = then' (d_fragment_name tt) h
fragment_name_comes p Subscription n tokens stack h = then' (d_fragment_name tt) h
fragment_name_comes p Fragment n tokens stack h = then' (d_fragment_name tt) h
fragment_name_comes p True n tokens stack h = then' (d_fragment_name tt) h
fragment_name_comes p False n tokens stack h = then' (d_fragment_name tt) h
fragment_name_comes p Null n tokens stack h = then' (d_fragment_name tt) h
fragment_name_comes p Other n tokens stack h = then' (d_fragment_name tt) h

-- with nothing expected a definition may come
definition_back : (p : Place) (w : Word) (tokens : List Token) → Shifted (shift [] w) tokens → Means [] (at p w ∷ tokens)
definition_back p (Punct BraceLeft) tokens (then' (d_first s ss) (ends others)) = ends (next_operation (shorthand (selection_set s ss)) others)
definition_back p (Name Query w) tokens h = let o = operation_back p kind.Query Query w tokens [] query h in done o.is o.rest
  where
    done : {o : tree.Operation} {before after : List Token} → IsOperation o before after → Means [] after → Means [] before
    done is (ends others) = ends (next_operation is others)
definition_back p (Name Mutation w) tokens h = let o = operation_back p kind.Mutation Mutation w tokens [] mutation h in done o.is o.rest
  where
    done : {o : tree.Operation} {before after : List Token} → IsOperation o before after → Means [] after → Means [] before
    done is (ends others) = ends (next_operation is others)
definition_back p (Name Subscription w) tokens h = let o = operation_back p kind.Subscription Subscription w tokens [] subscription h in done o.is o.rest
  where
    done : {o : tree.Operation} {before after : List Token} → IsOperation o before after → Means [] after → Means [] before
    done is (ends others) = ends (next_operation is others)
definition_back p (Name Fragment w) tokens h = let f = fragment_back p w tokens [] h in done f.is f.rest
  where
    done : {f : tree.Fragment} {before after : List Token} → IsFragment f before after → Means [] after → Means [] before
    done is (ends others) = ends (next_fragment is others)
definition_back p _ tokens h = absurd h

-- ---- from the machine to the tokens

pub shifts_back : (stack : List Symbol) (p : Place) (w : Word) (tokens : List Token) → Shifted (shift stack w) tokens → Means stack (at p w ∷ tokens)
shifts_back [] p w tokens h = definition_back p w tokens h
shifts_back (AName ∷ stack) p (Name k n) tokens h = then' d_name h
shifts_back (AName ∷ stack) p _ tokens h = absurd h
shifts_back (AFragmentName ∷ stack) p (Name k n) tokens h = fragment_name_comes p k n tokens stack h
shifts_back (AFragmentName ∷ stack) p _ tokens h = absurd h
shifts_back (AnOn ∷ stack) p (Name On n) tokens h = then' d_on h
shifts_back (AnOn ∷ stack) p _ tokens h = absurd h
shifts_back (AColon ∷ stack) p (Punct Colon) tokens h = then' d_colon h
shifts_back (AColon ∷ stack) p _ tokens h = absurd h
shifts_back (AValue c ∷ stack) p (Int n) tokens h = then' (d_value int) h
shifts_back (AValue c ∷ stack) p (Float n) tokens h = then' (d_value float) h
shifts_back (AValue c ∷ stack) p (Text n) tokens h = then' (d_value text) h
shifts_back (AValue c ∷ stack) p (Name k n) tokens h = then' (d_value (name_value c p k n tokens).1) h
shifts_back (AValue Const ∷ stack) p (Punct Dollar) tokens h = absurd h
shifts_back (AValue NotConst ∷ stack) p (Punct Dollar) tokens (then' d_name rest) = then' (d_value variable) rest
shifts_back (AValue c ∷ stack) p (Punct BracketLeft) tokens (then' (d_values vs) rest) = then' (d_value (array vs)) rest
shifts_back (AValue c ∷ stack) p (Punct BraceLeft) tokens (then' (d_members ms) rest) = then' (d_value (object ms)) rest
shifts_back (AValue c ∷ stack) p _ tokens h = absurd h
shifts_back (MoreValues c ∷ stack) p (Punct BracketRight) tokens h = then' (d_values no_more_values) h
shifts_back (MoreValues c ∷ stack) p (Int n) tokens (then' (d_values vs) rest) = then' (d_values (next_value int vs)) rest
shifts_back (MoreValues c ∷ stack) p (Float n) tokens (then' (d_values vs) rest) = then' (d_values (next_value float vs)) rest
shifts_back (MoreValues c ∷ stack) p (Text n) tokens (then' (d_values vs) rest) = then' (d_values (next_value text vs)) rest
shifts_back (MoreValues c ∷ stack) p (Name k n) tokens (then' (d_values vs) rest) = then' (d_values (next_value (name_value c p k n tokens).1 vs)) rest
shifts_back (MoreValues Const ∷ stack) p (Punct Dollar) tokens h = absurd h
shifts_back (MoreValues NotConst ∷ stack) p (Punct Dollar) tokens (then' d_name (then' (d_values vs) rest)) = then' (d_values (next_value variable vs)) rest
shifts_back (MoreValues c ∷ stack) p (Punct BracketLeft) tokens (then' (d_values ws) (then' (d_values vs) rest)) = then' (d_values (next_value (array ws) vs)) rest
shifts_back (MoreValues c ∷ stack) p (Punct BraceLeft) tokens (then' (d_members ms) (then' (d_values vs) rest)) = then' (d_values (next_value (object ms) vs)) rest
shifts_back (MoreValues c ∷ stack) p _ tokens h = absurd h
shifts_back (MoreMembers c ∷ stack) p (Name k n) tokens (then' d_colon (then' (d_value v) (then' (d_members ms) rest))) = then' (d_members (next_member v ms)) rest
shifts_back (MoreMembers c ∷ stack) p (Punct BraceRight) tokens h = then' (d_members no_more_members) h
shifts_back (MoreMembers c ∷ stack) p _ tokens h = absurd h
shifts_back (AType ∷ stack) p (Name k n) tokens (then' b rest) = then' (d_type b) rest
shifts_back (AType ∷ stack) p (Punct BracketLeft) tokens (then' t (then' b (then' c rest))) = then' (d_list_type t b c) rest
shifts_back (AType ∷ stack) p _ tokens h = absurd h
shifts_back (ABracket ∷ stack) p (Punct BracketRight) tokens h = then' d_bracket h
shifts_back (ABracket ∷ stack) p _ tokens h = absurd h
shifts_back (MaybeBang ∷ stack) p (Punct Bang) tokens h = then' d_bang h
shifts_back (MaybeBang ∷ stack) p w tokens h = then' (d_no_bang (λ e. cc)) (shifts_back stack p w tokens h)
shifts_back (MaybeArguments c ∷ stack) p (Punct ParenLeft) tokens (then' d_name (then' d_colon (then' (d_value v) (then' (d_more_arguments others) rest)))) = then' (d_arguments (argument v) others) rest
shifts_back (MaybeArguments c ∷ stack) p w tokens h = then' (d_no_arguments (λ e. cc)) (shifts_back stack p w tokens h)
shifts_back (MoreArguments c ∷ stack) p (Name k n) tokens (then' d_colon (then' (d_value v) (then' (d_more_arguments others) rest))) = then' (d_more_arguments (next_argument (argument v) others)) rest
shifts_back (MoreArguments c ∷ stack) p (Punct ParenRight) tokens h = then' (d_more_arguments no_more_arguments) h
shifts_back (MoreArguments c ∷ stack) p _ tokens h = absurd h
shifts_back (MaybeDirectives c ∷ stack) p (Punct At) tokens (then' d_name (then' as' (then' ds rest))) = then' (d_directive as' ds) rest
shifts_back (MaybeDirectives c ∷ stack) p w tokens h = then' (d_no_directives (λ e. cc)) (shifts_back stack p w tokens h)
shifts_back (AfterName ∷ stack) p (Punct Colon) tokens (then' d_name rest) = then' d_alias rest
shifts_back (AfterName ∷ stack) p w tokens h = then' (d_no_alias (λ e. cc)) (shifts_back stack p w tokens h)
shifts_back (AfterDots ∷ stack) p (Name k n) tokens h = name_after_dots p k n tokens stack h
shifts_back (AfterDots ∷ stack) p (Punct At) tokens (then' d_name (then' as' (then' ds (then' s rest)))) = then' (d_inline no_condition (d_directive as' ds) s) rest
shifts_back (AfterDots ∷ stack) p (Punct BraceLeft) tokens (then' (d_first s ss) rest) = then' (d_inline no_condition (d_no_directives (λ e. cc)) (d_set (selection_set s ss))) rest
shifts_back (AfterDots ∷ stack) p _ tokens h = absurd h
shifts_back (MaybeSet ∷ stack) p (Punct BraceLeft) tokens (then' (d_first s ss) rest) = then' (d_maybe_set (selection_set s ss)) rest
shifts_back (MaybeSet ∷ stack) p w tokens h = then' (d_no_set (λ e. cc)) (shifts_back stack p w tokens h)
shifts_back (ASet ∷ stack) p (Punct BraceLeft) tokens (then' (d_first s ss) rest) = then' (d_set (selection_set s ss)) rest
shifts_back (ASet ∷ stack) p _ tokens h = absurd h
shifts_back (FirstSelection ∷ stack) p (Name k n) tokens h = let b = field_back p k n tokens stack h in then' (d_first b.is b.more) b.rest
shifts_back (FirstSelection ∷ stack) p (Punct punct.Spread) tokens (then' dots (then' (d_more others) rest)) = then' (d_first (dots_back {p = p} dots).1 others) rest
shifts_back (FirstSelection ∷ stack) p _ tokens h = absurd h
shifts_back (MoreSelections ∷ stack) p (Name k n) tokens h = let b = field_back p k n tokens stack h in then' (d_more (next_selection b.is b.more)) b.rest
shifts_back (MoreSelections ∷ stack) p (Punct punct.Spread) tokens (then' dots (then' (d_more others) rest)) = then' (d_more (next_selection (dots_back {p = p} dots).1 others)) rest
shifts_back (MoreSelections ∷ stack) p (Punct BraceRight) tokens h = then' (d_more no_more_selections) h
shifts_back (MoreSelections ∷ stack) p _ tokens h = absurd h
shifts_back (MaybeDefault ∷ stack) p (Punct Equals) tokens (then' v rest) = then' (d_default v) rest
shifts_back (MaybeDefault ∷ stack) p w tokens h = then' (d_no_default (λ e. cc)) (shifts_back stack p w tokens h)
shifts_back (FirstVariable ∷ stack) p (Punct Dollar) tokens h = let b = variable_back p tokens stack h in then' (d_first_variable b.is b.more) b.rest
shifts_back (FirstVariable ∷ stack) p _ tokens h = absurd h
shifts_back (MoreVariables ∷ stack) p (Punct Dollar) tokens h = let b = variable_back p tokens stack h in then' (d_more_variables (next_variable b.is b.more)) b.rest
shifts_back (MoreVariables ∷ stack) p (Punct ParenRight) tokens h = then' (d_more_variables no_more_variables) h
shifts_back (MoreVariables ∷ stack) p _ tokens h = absurd h
shifts_back (MaybeVariables ∷ stack) p (Punct ParenLeft) tokens (then' v rest) = then' (d_variables v) rest
shifts_back (MaybeVariables ∷ stack) p w tokens h = then' (d_no_variables (λ e. cc)) (shifts_back stack p w tokens h)
shifts_back (MaybeName ∷ stack) p (Name k n) tokens h = then' d_maybe_name h
shifts_back (MaybeName ∷ stack) p w tokens h = then' (d_no_name tt) (shifts_back stack p w tokens h)
shifts_back (ADefinition ∷ stack) p (Punct BraceLeft) tokens (then' (d_first s ss) rest) = then' (d_operation (shorthand (selection_set s ss))) rest
shifts_back (ADefinition ∷ stack) p (Name Query n) tokens h = let o = operation_back p kind.Query Query n tokens stack query h in then' (d_operation o.is) o.rest
shifts_back (ADefinition ∷ stack) p (Name Mutation n) tokens h = let o = operation_back p kind.Mutation Mutation n tokens stack mutation h in then' (d_operation o.is) o.rest
shifts_back (ADefinition ∷ stack) p (Name Subscription n) tokens h = let o = operation_back p kind.Subscription Subscription n tokens stack subscription h in then' (d_operation o.is) o.rest
shifts_back (ADefinition ∷ stack) p (Name Fragment n) tokens h = let f = fragment_back p n tokens stack h in then' (d_fragment f.is) f.rest
shifts_back (ADefinition ∷ stack) p _ tokens h = absurd h

-- ---- the end

pub at_end_done : {stack : List Symbol} → Means stack [] → at_end stack ≡ Done
at_end_done (ends others) = refl
at_end_done (then' (d_value v) rest) = elim v [ ]
at_end_done (then' (d_values (next_value v vs)) rest) = elim v [ ]
at_end_done (then' (d_members ms) rest) = elim ms [ ]
at_end_done (then' (d_no_bang h) rest) = at_end_done rest
at_end_done (then' (d_no_arguments h) rest) = at_end_done rest
at_end_done (then' (d_more_arguments (next_argument a others)) rest) = elim a [ ]
at_end_done (then' (d_no_directives h) rest) = at_end_done rest
at_end_done (then' (d_no_alias h) rest) = at_end_done rest
at_end_done (then' (d_inline no_condition (d_no_directives h) (d_set s)) rest) = elim s [ ]
at_end_done (then' (d_no_set h) rest) = at_end_done rest
at_end_done (then' (d_maybe_set s) rest) = elim s [ ]
at_end_done (then' (d_set s) rest) = elim s [ ]
at_end_done (then' (d_first (field name as' ds b) others) rest) = elim name [ ]
at_end_done (then' (d_more (next_selection (field name as' ds b) others)) rest) = elim name [ ]
at_end_done (then' (d_no_default h) rest) = at_end_done rest
at_end_done (then' (d_first_variable v others) rest) = elim v [ ]
at_end_done (then' (d_more_variables (next_variable v others)) rest) = elim v [ ]
at_end_done (then' (d_no_variables h) rest) = at_end_done rest
at_end_done (then' (d_no_name h) rest) = at_end_done rest
at_end_done (then' (d_operation (shorthand s)) rest) = elim s [ ]
at_end_done (then' (d_fragment f) rest) = elim f [ ]

-- ---- whatever is expected, something meets it

a : List ℕ
a = codes "a"

a_plain : keyword_of a ≡ Other
unfolding a keyword_of
a_plain = refl

on : List ℕ
on = codes "on"

on_is : keyword_of on ≡ On
unfolding on keyword_of
on_is = refl

abbrev here : Place
here = record { line = 1; column = 1 }

abbrev sign : Word → Token
sign w = at here w

abbrev an_a : Token
an_a = at here (Name Other a)

-- `{ ...a }`, after its brace
abbrev spread_then : List Token → List Token
spread_then after = sign (Punct punct.Spread) ∷ an_a ∷ sign (Punct BraceRight) ∷ after

a_spread : {after : List Token} → IsSelection (tree.Spread here a []) (sign (Punct punct.Spread) ∷ an_a ∷ after) after
a_spread = spread tt no_directives

a_spread_set : {after : List Token} → IsSelectionSet (tree.set_at here (tree.and_selection (tree.Spread here a []) tree.no_selection)) (sign (Punct BraceLeft) ∷ spread_then after) after
a_spread_set = selection_set a_spread no_more_selections

-- says what meets them, and that it begins with no `@`
pub record Meeting (stack : List Symbol) : Type 0 where
  pub tokens : List Token
  pub means : Means stack tokens
  pub no_at : IsNotNext (Punct At) tokens
  pub spelled : AreSpelled tokens

pub meets : (stack : List Symbol) → Meeting stack
meets [] = record { tokens = []; means = ends no_more_definitions; no_at = tt; spelled = tt }
meets (AName ∷ stack) = let r = meets stack in record { tokens = an_a ∷ r.tokens; means = then' d_name r.means; no_at = λ e. cc; spelled = (a_plain, r.spelled) }
meets (AFragmentName ∷ stack) = let r = meets stack in record { tokens = an_a ∷ r.tokens; means = then' (d_fragment_name tt) r.means; no_at = λ e. cc; spelled = (a_plain, r.spelled) }
meets (AnOn ∷ stack) = let r = meets stack in record { tokens = at here (Name On on) ∷ r.tokens; means = then' d_on r.means; no_at = λ e. cc; spelled = (on_is, r.spelled) }
meets (AColon ∷ stack) = let r = meets stack in record { tokens = sign (Punct Colon) ∷ r.tokens; means = then' d_colon r.means; no_at = λ e. cc; spelled = (tt, r.spelled) }
meets (AValue c ∷ stack) = let r = meets stack in record { tokens = sign (Int (codes "0")) ∷ r.tokens; means = then' (d_value int) r.means; no_at = λ e. cc; spelled = (tt, r.spelled) }
meets (MoreValues c ∷ stack) = let r = meets stack in record { tokens = sign (Punct BracketRight) ∷ r.tokens; means = then' (d_values no_more_values) r.means; no_at = λ e. cc; spelled = (tt, r.spelled) }
meets (MoreMembers c ∷ stack) = let r = meets stack in record { tokens = sign (Punct BraceRight) ∷ r.tokens; means = then' (d_members no_more_members) r.means; no_at = λ e. cc; spelled = (tt, r.spelled) }
meets (AType ∷ stack) = let r = meets stack in record { tokens = an_a ∷ sign (Punct Bang) ∷ r.tokens; means = then' (d_type d_bang) r.means; no_at = λ e. cc; spelled = (a_plain, (tt, r.spelled)) }
meets (ABracket ∷ stack) = let r = meets stack in record { tokens = sign (Punct BracketRight) ∷ r.tokens; means = then' d_bracket r.means; no_at = λ e. cc; spelled = (tt, r.spelled) }
meets (MaybeBang ∷ stack) = let r = meets stack in record { tokens = sign (Punct Bang) ∷ r.tokens; means = then' d_bang r.means; no_at = λ e. cc; spelled = (tt, r.spelled) }
meets (MaybeArguments c ∷ stack) = let r = meets stack in record {
  tokens = sign (Punct ParenLeft) ∷ an_a ∷ sign (Punct Colon) ∷ sign (Int (codes "0")) ∷ sign (Punct ParenRight) ∷ r.tokens;
  means = then' (d_arguments (argument int) no_more_arguments) r.means;
  no_at = λ e. cc;
  spelled = (tt, (a_plain, (tt, (tt, (tt, r.spelled)))));
}
meets (MoreArguments c ∷ stack) = let r = meets stack in record { tokens = sign (Punct ParenRight) ∷ r.tokens; means = then' (d_more_arguments no_more_arguments) r.means; no_at = λ e. cc; spelled = (tt, r.spelled) }
meets (MaybeDirectives c ∷ stack) = let r = meets stack in record { tokens = r.tokens; means = then' (d_no_directives r.no_at) r.means; no_at = r.no_at; spelled = r.spelled }
meets (AfterName ∷ stack) = let r = meets stack in record { tokens = sign (Punct Colon) ∷ an_a ∷ r.tokens; means = then' d_alias r.means; no_at = λ e. cc; spelled = (tt, (a_plain, r.spelled)) }
meets (AfterDots ∷ stack) = let r = meets stack in record {
  tokens = sign (Punct BraceLeft) ∷ spread_then r.tokens;
  means = then' (d_inline no_condition (d_no_directives (λ e. cc)) (d_set a_spread_set)) r.means;
  no_at = λ e. cc;
  spelled = (tt, (tt, (a_plain, (tt, r.spelled))));
}
meets (MaybeSet ∷ stack) = let r = meets stack in record { tokens = sign (Punct BraceLeft) ∷ spread_then r.tokens; means = then' (d_maybe_set a_spread_set) r.means; no_at = λ e. cc; spelled = (tt, (tt, (a_plain, (tt, r.spelled)))) }
meets (ASet ∷ stack) = let r = meets stack in record { tokens = sign (Punct BraceLeft) ∷ spread_then r.tokens; means = then' (d_set a_spread_set) r.means; no_at = λ e. cc; spelled = (tt, (tt, (a_plain, (tt, r.spelled)))) }
meets (FirstSelection ∷ stack) = let r = meets stack in record { tokens = spread_then r.tokens; means = then' (d_first a_spread no_more_selections) r.means; no_at = λ e. cc; spelled = (tt, (a_plain, (tt, r.spelled))) }
meets (MoreSelections ∷ stack) = let r = meets stack in record { tokens = sign (Punct BraceRight) ∷ r.tokens; means = then' (d_more no_more_selections) r.means; no_at = λ e. cc; spelled = (tt, r.spelled) }
meets (MaybeDefault ∷ stack) = let r = meets stack in record { tokens = sign (Punct Equals) ∷ sign (Int (codes "0")) ∷ r.tokens; means = then' (d_default (d_value int)) r.means; no_at = λ e. cc; spelled = (tt, (tt, r.spelled)) }
meets (FirstVariable ∷ stack) = let r = meets stack in record {
  tokens = sign (Punct Dollar) ∷ an_a ∷ sign (Punct Colon) ∷ an_a ∷ sign (Punct ParenRight) ∷ r.tokens;
  means = then' (d_first_variable (variable_definition (named no_bang) no_default no_directives) no_more_variables) r.means;
  no_at = λ e. cc;
  spelled = (tt, (a_plain, (tt, (a_plain, (tt, r.spelled)))));
}
meets (MoreVariables ∷ stack) = let r = meets stack in record { tokens = sign (Punct ParenRight) ∷ r.tokens; means = then' (d_more_variables no_more_variables) r.means; no_at = λ e. cc; spelled = (tt, r.spelled) }
meets (MaybeVariables ∷ stack) = let r = meets stack in record {
  tokens = sign (Punct ParenLeft) ∷ sign (Punct Dollar) ∷ an_a ∷ sign (Punct Colon) ∷ an_a ∷ sign (Punct ParenRight) ∷ r.tokens;
  means = then' (d_variables (d_first_variable (variable_definition (named no_bang) no_default no_directives) no_more_variables)) r.means;
  no_at = λ e. cc;
  spelled = (tt, (tt, (a_plain, (tt, (a_plain, (tt, r.spelled))))));
}
meets (MaybeName ∷ stack) = let r = meets stack in record { tokens = an_a ∷ r.tokens; means = then' d_maybe_name r.means; no_at = λ e. cc; spelled = (a_plain, r.spelled) }
meets (ADefinition ∷ stack) = let r = meets stack in record {
  tokens = sign (Punct BraceLeft) ∷ spread_then r.tokens;
  means = then' (d_operation (shorthand a_spread_set)) r.means;
  no_at = λ e. cc;
  spelled = (tt, (tt, (a_plain, (tt, r.spelled))));
}
