-- A list of tokens has at most one tree.
use Rattle.std.proofs.Common.{◌≡◌, ℕ, Bool, List, [], ◌∷◌, Option, Some, None, refl, sym, ap, subst, ◌∙◌}
use Rattle.text_place.specs.declared.place.Place.{Place}
use Rattle.gq_lexer.specs.declared.token.Punct.TheVariants.{Bang, ParenLeft, Colon, Equals, BracketRight}
use Rattle.gq_parser.specs.declared.value.Constness.{Constness}
use Rattle.gq_parser.specs.declared.value.Constness.TheVariants.{Const, NotConst}
use Rattle.gq_parser.specs.declared.keyword.Keyword.{Keyword}
use Rattle.gq_parser.specs.declared.tree.OperationKind.{OperationKind}
use Rattle.gq_parser.specs.declared.tree.OperationKind.TheVariants as kind
use Rattle.gq_parser.specs.Word.{Punct, Token, at}
use Rattle.gq_parser.specs.Tree as tree
use Rattle.gq_parser.specs.Grammar.{IsValue, variable, int, float, text, yes, no, null, enum, array, object, AreValues, no_more_values, next_value, AreMembers, no_more_members, next_member}
use Rattle.gq_parser.specs.Grammar.{IsBang, no_bang, bang, IsType, named, list_of, IsArgument, argument, AreArguments, no_more_arguments, next_argument, AreOptionalArguments, no_arguments, arguments}
use Rattle.gq_parser.specs.Grammar.{IsDirective, directive, AreDirectives, no_directives, next_directive, IsFieldName, unaliased, aliased, IsCondition, no_condition, condition}
use Rattle.gq_parser.specs.Grammar.{IsSelection, field, spread, inline, IsOptionalSet, no_set, a_set, IsSelectionSet, selection_set, AreSelections, no_more_selections, next_selection}
use Rattle.gq_parser.specs.Grammar.{IsDefault, no_default, default, IsVariable, variable_definition, AreVariables, no_more_variables, next_variable, AreOptionalVariables, no_variables, variables}
use Rattle.gq_parser.specs.Grammar.{IsOptionalName, no_name, a_name, IsKind, query, mutation, subscription, IsOperation, shorthand, operation, IsFragment, fragment, IsDocument, AreDefinitions, no_more_definitions, next_operation, next_fragment}
use Rattle.gq_parser.specs.Parsing.{IsNotNext, IsNoName}
use Rattle.gq_parser.proofs.Means.{IsAfterField, after_field, field_ends, IsAfterDirectives, set_follows, after_directives, after_arguments, after_name, IsAfterVariable, after_variable, after_default, after_type, directives_first, nameless, nameless_variables}

both : {A B C : Type 0} (f : A → B → C) {a a' : A} {b b' : B} → a ≡ a' → b ≡ b' → f a b ≡ f a' b'
both f {a' = a'} {b = b} p q = ap (λ x. f x b) p ∙ ap (λ y. f a' y) q

mutual
  value_one : {c : Constness} {v w : tree.Value} {before after after' : List Token} → IsValue c v before after → IsValue c w before after' → (v ≡ w) × (after ≡ after')
  value_one int int = (refl, refl)
  value_one float float = (refl, refl)
  value_one text text = (refl, refl)
  value_one variable variable = (refl, refl)
  value_one yes yes = (refl, refl)
  value_one yes (enum h) = absurd h
  value_one no no = (refl, refl)
  value_one no (enum h) = absurd h
  value_one null null = (refl, refl)
  value_one null (enum h) = absurd h
  value_one (enum h) yes = absurd h
  value_one (enum h) no = absurd h
  value_one (enum h) null = absurd h
  value_one (enum h) (enum h') = (refl, refl)
  value_one (array {p = p} vs) (array ws) = let r = values_one vs ws in (ap (tree.Array p) r.0, r.1)
  value_one (object {p = p} vs) (object ws) = let r = members_one vs ws in (ap (tree.Object p) r.0, r.1)

  values_one : {c : Constness} {vs ws : tree.Values} {before after after' : List Token} → AreValues c vs before after → AreValues c ws before after' → (vs ≡ ws) × (after ≡ after')
  values_one no_more_values no_more_values = (refl, refl)
  values_one no_more_values (next_value w ws) = elim w [ ]
  values_one (next_value v vs) no_more_values = elim v [ ]
  values_one {c = c} (next_value v vs) (next_value {vs = ys} {after = k} w ws) =
      let r = value_one v w in
      let s = values_one vs (subst (λ m. AreValues c ys m k) (sym r.1) ws) in
      (both tree.and_value r.0 s.0, s.1)

  members_one : {c : Constness} {vs ws : tree.Members} {before after after' : List Token} → AreMembers c vs before after → AreMembers c ws before after' → (vs ≡ ws) × (after ≡ after')
  members_one no_more_members no_more_members = (refl, refl)
  members_one {c = c} (next_member {p = p} {n = n} v vs) (next_member {ms = ys} {after = k} w ws) =
      let r = value_one v w in
      let s = members_one vs (subst (λ m. AreMembers c ys m k) (sym r.1) ws) in
      (both (tree.and_member p n) r.0 s.0, s.1)

bang_one : {b b' : Bool} {before after after' : List Token} → IsBang b before after → IsBang b' before after' → IsNotNext (Punct Bang) after → IsNotNext (Punct Bang) after' → (b ≡ b') × (after ≡ after')
bang_one no_bang no_bang h h' = (refl, refl)
bang_one no_bang bang h h' = absurd (h refl)
bang_one bang no_bang h h' = absurd (h' refl)
bang_one bang bang h h' = (refl, refl)

type_one : {t u : tree.TypeTree} {before after after' : List Token} → IsType t before after → IsType u before after' → IsNotNext (Punct Bang) after → IsNotNext (Punct Bang) after' → (t ≡ u) × (after ≡ after')
type_one (named {p = p} {n = n} b) (named b') h h' = let r = bang_one b b' h h' in (ap (tree.Named p n) r.0, r.1)
type_one (list_of {p = p} t b) (list_of {non_null = non_null} {after = k} u b') h h' =
    let r = type_one t u (λ e. cc) (λ e. cc) in
    let s = bang_one b (subst (λ m. IsBang non_null m k) (sym (tails r.1)) b') h h' in
    (both (tree.ListOf p) r.0 s.0, s.1)
  where
    tails : {p q : Place} {xs ys : List Token} → at p (Punct BracketRight) ∷ xs ≡ at q (Punct BracketRight) ∷ ys → xs ≡ ys
    tails e = cc

argument_one : {c : Constness} {a b : tree.Argument} {before after after' : List Token} → IsArgument c a before after → IsArgument c b before after' → (a ≡ b) × (after ≡ after')
argument_one (argument {p = p} {n = n} v) (argument w) = let r = value_one v w in (ap (λ x. record { place = p; name = n; value = x }) r.0, r.1)

arguments_one : {c : Constness} {as' bs : List tree.Argument} {before after after' : List Token} → AreArguments c as' before after → AreArguments c bs before after' → (as' ≡ bs) × (after ≡ after')
arguments_one no_more_arguments no_more_arguments = (refl, refl)
arguments_one no_more_arguments (next_argument b bs) = elim b [ ]
arguments_one (next_argument a as') no_more_arguments = elim a [ ]
arguments_one {c = c} (next_argument a as') (next_argument {others = ys} {after = k} b bs) =
    let r = argument_one a b in
    let s = arguments_one as' (subst (λ m. AreArguments c ys m k) (sym r.1) bs) in
    (both (λ x xs. x ∷ xs) r.0 s.0, s.1)

optional_arguments_one : {c : Constness} {as' bs : List tree.Argument} {before after after' : List Token} → AreOptionalArguments c as' before after → AreOptionalArguments c bs before after'
    → IsNotNext (Punct ParenLeft) after → IsNotNext (Punct ParenLeft) after' → (as' ≡ bs) × (after ≡ after')
optional_arguments_one no_arguments no_arguments h h' = (refl, refl)
optional_arguments_one no_arguments (arguments b bs) h h' = absurd (h refl)
optional_arguments_one (arguments a as') no_arguments h h' = absurd (h' refl)
optional_arguments_one {c = c} (arguments a as') (arguments {others = ys} {after = k} b bs) h h' =
    let r = argument_one a b in
    let s = arguments_one as' (subst (λ m. AreArguments c ys m k) (sym r.1) bs) in
    (both (λ x xs. x ∷ xs) r.0 s.0, s.1)

directive_one : {c : Constness} {d d' : tree.Directive} {before after after' : List Token} → IsDirective c d before after → IsDirective c d' before after' → IsNotNext (Punct ParenLeft) after → IsNotNext (Punct ParenLeft) after' → (d ≡ d') × (after ≡ after')
directive_one (directive {p = p} {n = n} as') (directive bs) h h' = let r = optional_arguments_one as' bs h h' in (ap (λ x. record { place = p; name = n; arguments = x }) r.0, r.1)

directives_one : {c : Constness} {ds ds' : List tree.Directive} {before after after' : List Token} → AreDirectives c ds before after → AreDirectives c ds' before after' → IsAfterDirectives after → IsAfterDirectives after'
    → (ds ≡ ds') × (after ≡ after')
directives_one no_directives no_directives h h' = (refl, refl)
directives_one no_directives (next_directive (directive as') others) h h' = absurd (h.no_at refl)
directives_one (next_directive (directive as') others) no_directives h h' = absurd (h'.no_at refl)
directives_one {c = c} (next_directive d others) (next_directive {others = os} {after = k} d' others') h h' =
    let r = directive_one d d' (after_arguments others h).no_parenthesis (after_arguments others' h').no_parenthesis in
    let q = directives_one others (subst (λ m. AreDirectives c os m k) (sym r.1) others') h h' in
    (both (λ x xs. x ∷ xs) r.0 q.0, q.1)

field_name_one : {p q : Place} {a b : Option (List ℕ)} {n m : List ℕ} {before after after' : List Token} → IsFieldName p a n before after → IsFieldName q b m before after' → IsNotNext (Punct Colon) after → IsNotNext (Punct Colon) after'
    → (p ≡ q) × (a ≡ b) × (n ≡ m) × (after ≡ after')
field_name_one unaliased unaliased h h' = (refl, refl, refl, refl)
field_name_one unaliased aliased h h' = absurd (h refl)
field_name_one aliased unaliased h h' = absurd (h' refl)
field_name_one aliased aliased h h' = (refl, refl, refl, refl)

condition_one : {c c' : Option tree.Condition} {ds ds' : List tree.Directive} {s s' : tree.SelectionSet} {before m1 m1' m2 m2' after after' : List Token} → IsCondition c before m1 → IsCondition c' before m1'
    → AreDirectives NotConst ds m1 m2 → AreDirectives NotConst ds' m1' m2' → IsSelectionSet s m2 after → IsSelectionSet s' m2' after' → (c ≡ c') × (m1 ≡ m1')
condition_one no_condition no_condition d d' b b' = (refl, refl)
condition_one no_condition condition d d' b b' = absurd (nameless d b)
condition_one condition no_condition d d' b b' = absurd (nameless d' b')
condition_one condition condition d d' b b' = (refl, refl)

field_is : {p p' : Place} {a a' : Option (List ℕ)} {n n' : List ℕ} {as' bs : List tree.Argument} {ds ds' : List tree.Directive} {b b' : tree.Below} → p ≡ p' → a ≡ a' → n ≡ n' → as' ≡ bs → ds ≡ ds' → b ≡ b'
    → tree.Field p a n as' ds b ≡ tree.Field p' a' n' bs ds' b'
field_is p q r s t u = cc

inline_is : (p : Place) {c c' : Option tree.Condition} {ds ds' : List tree.Directive} {s s' : tree.SelectionSet} → c ≡ c' → ds ≡ ds' → s ≡ s' → tree.Inline p c ds s ≡ tree.Inline p c' ds' s'
inline_is place p q r = cc

mutual
  selection_one : {s s' : tree.Selection} {before after after' : List Token} → IsSelection s before after → IsSelection s' before after' → IsAfterField after → IsAfterField after' → (s ≡ s') × (after ≡ after')
  selection_one (spread {p = p} {n = n} h ds) (spread h' ds') f f' = let r = directives_one ds ds' (field_ends f) (field_ends f') in (ap (tree.Spread p n) r.0, r.1)
  selection_one (spread h ds) (inline no_condition ds' s) f f' = absurd (nameless ds' s)
  selection_one (spread h ds) (inline condition ds' s) f f' = absurd h
  selection_one (inline no_condition ds s) (spread h ds') f f' = absurd (nameless ds s)
  selection_one (inline condition ds s) (spread h ds') f f' = absurd h
  selection_one (spread h ds) (field name as' ds' b) f f' = elim name [ ]
  selection_one (field name as' ds b) (spread h ds') f f' = elim name [ ]
  selection_one (inline c ds s) (field name as' ds' b) f f' = elim name [ ]
  selection_one (field name as' ds b) (inline c ds' s) f f' = elim name [ ]
  selection_one (inline {p = p} c ds s) (inline {ds = es} {s = t} {mid'' = i} {after = k} c' ds' s') f f' =
      let n = condition_one c c' ds ds' s s' in
      let q = directives_one ds (subst (λ m. AreDirectives NotConst es m i) (sym n.1) ds') (set_follows s) (set_follows s') in
      let r = set_one s (subst (λ m. IsSelectionSet t m k) (sym q.1) s') in
      (inline_is p n.0 q.0 r.0, r.1)
  selection_one (field name as' ds b) (field {as' = bs} {ds = es} {b = c} {mid' = j} {mid'' = i} {after = k} name' as'' ds' b') f f' =
      let g = after_directives b f in
      let g' = after_directives b' f' in
      let h = after_arguments ds g in
      let h' = after_arguments ds' g' in
      let n = field_name_one name name' (after_name as' h) (after_name as'' h') in
      let a = optional_arguments_one as' (subst (λ m. AreOptionalArguments NotConst bs m j) (sym n.3) as'') h.no_parenthesis h'.no_parenthesis in
      let d = directives_one ds (subst (λ m. AreDirectives NotConst es m i) (sym a.1) ds') g g' in
      let u = optional_set_one b (subst (λ m. IsOptionalSet c m k) (sym d.1) b') f f' in
      (field_is n.0 n.1 n.2 a.0 d.0 u.0, u.1)

  optional_set_one : {b b' : tree.Below} {before after after' : List Token} → IsOptionalSet b before after → IsOptionalSet b' before after' → IsAfterField after → IsAfterField after' → (b ≡ b') × (after ≡ after')
  optional_set_one no_set no_set f f' = (refl, refl)
  optional_set_one no_set (a_set (selection_set s ss)) f f' = absurd (f.no_brace refl)
  optional_set_one (a_set (selection_set s ss)) no_set f f' = absurd (f'.no_brace refl)
  optional_set_one (a_set s) (a_set s') f f' = let r = set_one s s' in (ap tree.below r.0, r.1)

  set_one : {s s' : tree.SelectionSet} {before after after' : List Token} → IsSelectionSet s before after → IsSelectionSet s' before after' → (s ≡ s') × (after ≡ after')
  set_one (selection_set {p = p} s ss) (selection_set {others = others} {after = k} s' ss') =
      let r = selection_one s s' (after_field ss) (after_field ss') in
      let q = selections_one ss (subst (λ m. AreSelections others m k) (sym r.1) ss') in
      (both (λ x xs. tree.set_at p (tree.and_selection x xs)) r.0 q.0, q.1)

  selections_one : {s s' : tree.Selections} {before after after' : List Token} → AreSelections s before after → AreSelections s' before after' → (s ≡ s') × (after ≡ after')
  selections_one no_more_selections no_more_selections = (refl, refl)
  selections_one no_more_selections (next_selection (field name as' ds b) ss') = elim name [ ]
  selections_one (next_selection (field name as' ds b) ss) no_more_selections = elim name [ ]
  selections_one (next_selection s ss) (next_selection {others = os} {after = k} s' ss') =
      let r = selection_one s s' (after_field ss) (after_field ss') in
      let q = selections_one ss (subst (λ m. AreSelections os m k) (sym r.1) ss') in
      (both tree.and_selection r.0 q.0, q.1)

default_one : {d d' : Option tree.Value} {before after after' : List Token} → IsDefault d before after → IsDefault d' before after' → IsNotNext (Punct Equals) after → IsNotNext (Punct Equals) after' → (d ≡ d') × (after ≡ after')
default_one no_default no_default h h' = (refl, refl)
default_one no_default (default v) h h' = absurd (h refl)
default_one (default v) no_default h h' = absurd (h' refl)
default_one (default v) (default w) h h' = let r = value_one v w in (ap Some r.0, r.1)

variable_is : (p : Place) (n : List ℕ) {t t' : tree.TypeTree} {d d' : Option tree.Value} {ds ds' : List tree.Directive} → t ≡ t' → d ≡ d' → ds ≡ ds'
    → let v : tree.VariableDefinition = record { place = p; name = n; of_type = t; default = d; directives = ds } in v ≡ record { place = p; name = n; of_type = t'; default = d'; directives = ds' }
variable_is p n q r s = cc

variable_one : {v v' : tree.VariableDefinition} {before after after' : List Token} → IsVariable v before after → IsVariable v' before after' → IsAfterVariable after → IsAfterVariable after' → (v ≡ v') × (after ≡ after')
variable_one (variable_definition {p = p} {n = n} t d ds) (variable_definition {v = e} {ds = es} {mid'' = i} {after = k} t' d' ds') f f' =
    let g = after_default ds f in
    let g' = after_default ds' f' in
    let u = type_one t t' (after_type d g.1) (after_type d' g'.1) in
    let w = default_one d (subst (λ m. IsDefault e m i) (sym u.1) d') g.0 g'.0 in
    let x = directives_one ds (subst (λ m. AreDirectives Const es m k) (sym w.1) ds') f.directives f'.directives in
    (variable_is p n u.0 w.0 x.0, x.1)

variables_one : {vs vs' : List tree.VariableDefinition} {before after after' : List Token} → AreVariables vs before after → AreVariables vs' before after' → (vs ≡ vs') × (after ≡ after')
variables_one no_more_variables no_more_variables = (refl, refl)
variables_one no_more_variables (next_variable v vs) = elim v [ ]
variables_one (next_variable v vs) no_more_variables = elim v [ ]
variables_one (next_variable v vs) (next_variable {others = os} {after = k} v' vs') =
    let r = variable_one v v' (after_variable vs) (after_variable vs') in
    let q = variables_one vs (subst (λ m. AreVariables os m k) (sym r.1) vs') in
    (both (λ x xs. x ∷ xs) r.0 q.0, q.1)

optional_variables_one : {vs vs' : List tree.VariableDefinition} {before after after' : List Token} → AreOptionalVariables vs before after → AreOptionalVariables vs' before after'
    → IsNotNext (Punct ParenLeft) after → IsNotNext (Punct ParenLeft) after' → (vs ≡ vs') × (after ≡ after')
optional_variables_one no_variables no_variables h h' = (refl, refl)
optional_variables_one no_variables (variables v vs) h h' = absurd (h refl)
optional_variables_one (variables v vs) no_variables h h' = absurd (h' refl)
optional_variables_one (variables v vs) (variables {others = os} {after = k} v' vs') h h' =
    let r = variable_one v v' (after_variable vs) (after_variable vs') in
    let q = variables_one vs (subst (λ m. AreVariables os m k) (sym r.1) vs') in
    (both (λ x xs. x ∷ xs) r.0 q.0, q.1)

name_one : {n n' : Option (List ℕ)} {before after after' : List Token} → IsOptionalName n before after → IsOptionalName n' before after' → IsNoName after → IsNoName after' → (n ≡ n') × (after ≡ after')
name_one no_name no_name h h' = (refl, refl)
name_one no_name a_name h h' = absurd h
name_one a_name no_name h h' = absurd h'
name_one a_name a_name h h' = (refl, refl)

kind_one : {o o' : OperationKind} {k : Keyword} → IsKind o k → IsKind o' k → o ≡ o'
kind_one query query = refl
kind_one mutation mutation = refl
kind_one subscription subscription = refl

operation_is : (p : Place) {o o' : OperationKind} {n n' : Option (List ℕ)} {vs vs' : List tree.VariableDefinition} {ds ds' : List tree.Directive} {s s' : tree.SelectionSet} → o ≡ o' → n ≡ n' → vs ≡ vs' → ds ≡ ds' → s ≡ s'
    → let x : tree.Operation = record { place = p; kind = o; name = n; variables = vs; directives = ds; selection_set = s } in x ≡ record { place = p; kind = o'; name = n'; variables = vs'; directives = ds'; selection_set = s' }
operation_is p q r s t u = cc

shorthand_is : {p p' : Place} {ss ss' : tree.Selections} → tree.set_at p ss ≡ tree.set_at p' ss' → (p ≡ p') × (ss ≡ ss')
shorthand_is e = (cc, cc)

operation_one : {o o' : tree.Operation} {before after after' : List Token} → IsOperation o before after → IsOperation o' before after' → (o ≡ o') × (after ≡ after')
operation_one (shorthand s) (shorthand s') = let r = set_one s s' in let e = shorthand_is r.0 in (both (λ p ss. record { place = p; kind = kind.Query; name = None; variables = []; directives = []; selection_set = tree.set_at p ss }) e.0 e.1, r.1)
operation_one (shorthand s) (operation k n vs ds t) = elim s [ ]
operation_one (operation k n vs ds t) (shorthand s) = elim s [ ]
operation_one (operation {p = p} k n vs ds s) (operation {vs = ws} {ds = es} {s = t} {mid'' = i} {mid''' = j} {after = l} k' n' vs' ds' s') =
    let a = name_one n n' (nameless_variables vs (nameless ds s)) (nameless_variables vs' (nameless ds' s')) in
    let b = optional_variables_one vs (subst (λ m. AreOptionalVariables ws m i) (sym a.1) vs') (directives_first ds s) (directives_first ds' s') in
    let d = directives_one ds (subst (λ m. AreDirectives NotConst es m j) (sym b.1) ds') (set_follows s) (set_follows s') in
    let e = set_one s (subst (λ m. IsSelectionSet t m l) (sym d.1) s') in
    (operation_is p (kind_one k k') a.0 b.0 d.0 e.0, e.1)

fragment_is : (p : Place) (n : List ℕ) (c : tree.Condition) {ds ds' : List tree.Directive} {s s' : tree.SelectionSet} → ds ≡ ds' → s ≡ s'
    → let x : tree.Fragment = record { place = p; name = n; condition = c; directives = ds; selection_set = s } in x ≡ record { place = p; name = n; condition = c; directives = ds'; selection_set = s' }
fragment_is p n c q r = cc

fragment_one : {f f' : tree.Fragment} {before after after' : List Token} → IsFragment f before after → IsFragment f' before after' → (f ≡ f') × (after ≡ after')
fragment_one (fragment {p = p} {u = u} {n = n} {t = t} h ds s) (fragment {s = x} {after = k} h' ds' s') =
    let d = directives_one ds ds' (set_follows s) (set_follows s') in
    let e = set_one s (subst (λ m. IsSelectionSet x m k) (sym d.1) s') in
    (fragment_is p n (record { place = u; name = t }) d.0 e.0, e.1)

-- a definition is an operation or a fragment
apart : {o : tree.Operation} {f : tree.Fragment} {before mid mid' : List Token} → IsOperation o before mid → IsFragment f before mid' → ⊥
apart (shorthand s) f = go s f
  where
    go : {s : tree.SelectionSet} {f : tree.Fragment} {before mid mid' : List Token} → IsSelectionSet s before mid → IsFragment f before mid' → ⊥
    go (selection_set s ss) f = elim f [ ]
apart (operation k n vs ds s) (fragment h ds' s') = elim k [ ]

no_operation : {o : tree.Operation} {after : List Token} → IsOperation o [] after → ⊥
no_operation (shorthand s) = elim s [ ]

no_fragment : {f : tree.Fragment} {after : List Token} → IsFragment f [] after → ⊥
no_fragment f = elim f [ ]

pub definitions_one : {os os' : List tree.Operation} {fs fs' : List tree.Fragment} {tokens : List Token} → AreDefinitions os fs tokens → AreDefinitions os' fs' tokens → (os ≡ os') × (fs ≡ fs')
definitions_one no_more_definitions no_more_definitions = (refl, refl)
definitions_one no_more_definitions (next_operation o others) = absurd (no_operation o)
definitions_one no_more_definitions (next_fragment f others) = absurd (no_fragment f)
definitions_one (next_operation o others) no_more_definitions = absurd (no_operation o)
definitions_one (next_fragment f others) no_more_definitions = absurd (no_fragment f)
definitions_one (next_operation o others) (next_fragment f others') = absurd (apart o f)
definitions_one (next_fragment f others) (next_operation o others') = absurd (apart o f)
definitions_one (next_operation o others) (next_operation {os = os} {fs = fs} o' others') =
    let r = operation_one o o' in
    let s = definitions_one others (subst (λ m. AreDefinitions os fs m) (sym r.1) others') in
    (both (λ x xs. x ∷ xs) r.0 s.0, s.1)
definitions_one (next_fragment f others) (next_fragment {os = os} {fs = fs} f' others') =
    let r = fragment_one f f' in
    let s = definitions_one others (subst (λ m. AreDefinitions os fs m) (sym r.1) others') in
    (s.0, both (λ x xs. x ∷ xs) r.0 s.1)

pub document_one : {d d' : tree.Document} {tokens : List Token} → IsDocument d tokens → IsDocument d' tokens → d ≡ d'
document_one h h' = let r = definitions_one h.are h'.are in both (λ os fs. record { operations = os; fragments = fs }) r.0 r.1
