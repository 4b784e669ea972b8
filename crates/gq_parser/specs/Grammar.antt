-- The grammar of documents (October 2021, sections 2.2 to 2.12), a case for each production.
-- IsValue constness v before after says that before is the tokens of the value v and then after; and so the others.
-- It is `Const` where the standard says `[Const]`, and such a value has no variables.
-- A place in a tree is that of the token that stands beside it here.
use Rattle.std.specs.Prelude.{◌≢◌, ℕ, Bool, true, false, List, [], ◌∷◌, Option, Some, None}
use Rattle.text_place.specs.declared.place.Place.{Place}
use Rattle.gq_lexer.specs.declared.token.Punct.TheVariants.{Bang, Dollar, ParenLeft, ParenRight, Spread, Colon, Equals, At, BracketLeft, BracketRight, BraceLeft, BraceRight}
use Rattle.gq_parser.specs.declared.value.Constness.{Constness}
use Rattle.gq_parser.specs.declared.value.Constness.TheVariants.{Const, NotConst}
use Rattle.gq_parser.specs.declared.keyword.Keyword.{Keyword}
use Rattle.gq_parser.specs.declared.keyword.Keyword.TheVariants.{Query, Mutation, Subscription, Fragment, On, True, False, Null}
use Rattle.gq_parser.specs.declared.tree.OperationKind.{OperationKind}
use Rattle.gq_parser.specs.declared.tree.OperationKind.TheVariants as kind
use Rattle.gq_parser.specs.Keywords.{IsFragmentName, IsEnumName}
use Rattle.gq_parser.specs.Word.{Token, at, Punct, Name, Int, Float, Text}
use Rattle.gq_parser.specs.Tree as tree

-- ---- values and types

mutual
  -- Value: `$` Name unless it is constant, Int, Float, string, `true`, `false`, `null`, another Name, `[` Value* `]`,
  -- `{` (Name `:` Value)* `}`
  pub data IsValue : Constness → tree.Value → List Token → List Token → Type 0 where
    variable : {p q : Place} {k : Keyword} {n : List ℕ} {after : List Token}
        → IsValue NotConst (tree.Variable p n) (at p (Punct Dollar) ∷ at q (Name k n) ∷ after) after
    int : {constness : Constness} {p : Place} {n : List ℕ} {after : List Token}
        → IsValue constness (tree.Int p n) (at p (Int n) ∷ after) after
    float : {constness : Constness} {p : Place} {n : List ℕ} {after : List Token}
        → IsValue constness (tree.Float p n) (at p (Float n) ∷ after) after
    text : {constness : Constness} {p : Place} {s : List ℕ} {after : List Token}
        → IsValue constness (tree.Text p s) (at p (Text s) ∷ after) after
    yes : {constness : Constness} {p : Place} {n : List ℕ} {after : List Token}
        → IsValue constness (tree.Boolean p true) (at p (Name True n) ∷ after) after
    no : {constness : Constness} {p : Place} {n : List ℕ} {after : List Token}
        → IsValue constness (tree.Boolean p false) (at p (Name False n) ∷ after) after
    null : {constness : Constness} {p : Place} {n : List ℕ} {after : List Token}
        → IsValue constness (tree.Null p) (at p (Name Null n) ∷ after) after
    enum : {constness : Constness} {p : Place} {k : Keyword} {n : List ℕ} {after : List Token}
        → IsEnumName k → IsValue constness (tree.Enum p n) (at p (Name k n) ∷ after) after
    array : {constness : Constness} {p : Place} {vs : tree.Values} {mid after : List Token}
        → AreValues constness vs mid after
        → IsValue constness (tree.Array p vs) (at p (Punct BracketLeft) ∷ mid) after
    object : {constness : Constness} {p : Place} {ms : tree.Members} {mid after : List Token}
        → AreMembers constness ms mid after
        → IsValue constness (tree.Object p ms) (at p (Punct BraceLeft) ∷ mid) after

  -- Value* `]`
  pub data AreValues : Constness → tree.Values → List Token → List Token → Type 0 where
    no_more_values : {constness : Constness} {p : Place} {after : List Token}
        → AreValues constness tree.no_value (at p (Punct BracketRight) ∷ after) after
    next_value : {constness : Constness} {v : tree.Value} {vs : tree.Values}
        {before mid after : List Token} → IsValue constness v before mid
        → AreValues constness vs mid after → AreValues constness (tree.and_value v vs) before after

  -- (Name `:` Value)* `}`
  pub data AreMembers : Constness → tree.Members → List Token → List Token → Type 0 where
    no_more_members : {constness : Constness} {p : Place} {after : List Token}
        → AreMembers constness tree.no_member (at p (Punct BraceRight) ∷ after) after
    next_member : {constness : Constness} {p q : Place} {k : Keyword} {n : List ℕ} {v : tree.Value}
        {ms : tree.Members} {mid mid' after : List Token}
        → IsValue constness v mid mid' → AreMembers constness ms mid' after → AreMembers constness
        (tree.and_member p n v ms) (at p (Name k n) ∷ at q (Punct Colon) ∷ mid) after

-- `!`?
pub data IsBang : Bool → List Token → List Token → Type 0 where
  no_bang : {after : List Token} → IsBang false after after
  bang : {p : Place} {after : List Token} → IsBang true (at p (Punct Bang) ∷ after) after

-- Type: Name or `[` Type `]`, each with `!` or without
pub data IsType : tree.TypeTree → List Token → List Token → Type 0 where
  named : {p : Place} {k : Keyword} {n : List ℕ} {non_null : Bool} {mid after : List Token}
      → IsBang non_null mid after → IsType (tree.Named p n non_null) (at p (Name k n) ∷ mid) after
  list_of : {p q : Place} {t : tree.TypeTree} {non_null : Bool} {mid mid' after : List Token}
      → IsType t mid (at q (Punct BracketRight) ∷ mid') → IsBang non_null mid' after
      → IsType (tree.ListOf p t non_null) (at p (Punct BracketLeft) ∷ mid) after

-- ---- arguments and directives

-- Name `:` Value
pub data IsArgument : Constness → tree.Argument → List Token → List Token → Type 0 where
  argument : {constness : Constness} {p q : Place} {k : Keyword} {n : List ℕ}
      {v : tree.Value} {mid after : List Token}
      → IsValue constness v mid after
      → IsArgument constness (record { place = p; name = n; value = v })
      (at p (Name k n) ∷ at q (Punct Colon) ∷ mid) after

-- (Name `:` Value)* `)`
pub data AreArguments : Constness → List tree.Argument → List Token → List Token → Type 0 where
  no_more_arguments : {constness : Constness} {p : Place} {after : List Token}
      → AreArguments constness [] (at p (Punct ParenRight) ∷ after) after
  next_argument : {constness : Constness} {a : tree.Argument} {others : List tree.Argument}
      {before mid after : List Token}
      → IsArgument constness a before mid → AreArguments constness others mid after
      → AreArguments constness (a ∷ others) before after

-- Arguments?: `(` (Name `:` Value)+ `)`
pub data AreOptionalArguments : Constness → List tree.Argument → List Token
    → List Token → Type 0 where
  no_arguments : {constness : Constness} {after : List Token}
      → AreOptionalArguments constness [] after after
  arguments : {constness : Constness} {p : Place} {a : tree.Argument} {others : List tree.Argument}
      {mid mid' after : List Token}
      → IsArgument constness a mid mid' → AreArguments constness others mid' after
      → AreOptionalArguments constness (a ∷ others) (at p (Punct ParenLeft) ∷ mid) after

-- `@` Name Arguments?
pub data IsDirective : Constness → tree.Directive → List Token → List Token → Type 0 where
  directive : {constness : Constness} {p q : Place} {k : Keyword} {n : List ℕ}
      {as' : List tree.Argument} {mid after : List Token}
      → AreOptionalArguments constness as' mid after
      → IsDirective constness (record { place = p; name = n; arguments = as' })
      (at p (Punct At) ∷ at q (Name k n) ∷ mid) after

-- Directives: (`@` Name Arguments?)*
pub data AreDirectives : Constness → List tree.Directive → List Token → List Token → Type 0 where
  no_directives : {constness : Constness} {after : List Token}
      → AreDirectives constness [] after after
  next_directive : {constness : Constness} {d : tree.Directive} {others : List tree.Directive}
      {before mid after : List Token}
      → IsDirective constness d before mid → AreDirectives constness others mid after
      → AreDirectives constness (d ∷ others) before after

-- ---- selections

-- (Name `:`)? Name, with the place of the first
pub data IsFieldName : Place → Option (List ℕ) → List ℕ → List Token → List Token → Type 0 where
  unaliased : {p : Place} {k : Keyword} {n : List ℕ} {after : List Token}
      → IsFieldName p None n (at p (Name k n) ∷ after) after
  aliased : {p q r : Place} {k k' : Keyword} {a n : List ℕ} {after : List Token} → IsFieldName p
      (Some a) n (at p (Name k a) ∷ at q (Punct Colon) ∷ at r (Name k' n) ∷ after) after

-- (`on` Name)?
pub data IsCondition : Option tree.Condition → List Token → List Token → Type 0 where
  no_condition : {after : List Token} → IsCondition None after after
  condition : {p q : Place} {k : Keyword} {w n : List ℕ} {after : List Token} → IsCondition
      (Some (record { place = q; name = n })) (at p (Name On w) ∷ at q (Name k n) ∷ after) after

mutual
  -- Selection: Field, Spread or Inline
  pub data IsSelection : tree.Selection → List Token → List Token → Type 0 where
    field : {p : Place} {alias : Option (List ℕ)} {n : List ℕ} {as' : List tree.Argument}
        {ds : List tree.Directive} {b : tree.Below} {before mid mid' mid'' after : List Token}
        → IsFieldName p alias n before mid → AreOptionalArguments NotConst as' mid mid'
        → AreDirectives NotConst ds mid' mid'' → IsOptionalSet b mid'' after
        → IsSelection (tree.Field p alias n as' ds b) before after
    spread : {p q : Place} {k : Keyword} {n : List ℕ}
        {ds : List tree.Directive} {mid after : List Token}
        → IsFragmentName k → AreDirectives NotConst ds mid after
        → IsSelection (tree.Spread p n ds) (at p (Punct Spread) ∷ at q (Name k n) ∷ mid) after
    inline : {p : Place} {c : Option tree.Condition} {ds : List tree.Directive}
        {s : tree.SelectionSet} {mid mid' mid'' after : List Token}
        → IsCondition c mid mid'
        → AreDirectives NotConst ds mid' mid'' → IsSelectionSet s mid'' after
        → IsSelection (tree.Inline p c ds s) (at p (Punct Spread) ∷ mid) after

  -- SelectionSet?
  pub data IsOptionalSet : tree.Below → List Token → List Token → Type 0 where
    no_set : {after : List Token} → IsOptionalSet tree.nothing_below after after
    a_set : {s : tree.SelectionSet} {before after : List Token}
        → IsSelectionSet s before after → IsOptionalSet (tree.below s) before after

  -- SelectionSet: `{` Selection+ `}`
  pub data IsSelectionSet : tree.SelectionSet → List Token → List Token → Type 0 where
    selection_set : {p : Place} {s : tree.Selection} {others : tree.Selections}
        {mid mid' after : List Token}
        → IsSelection s mid mid' → AreSelections others mid' after → IsSelectionSet
        (tree.set_at p (tree.and_selection s others)) (at p (Punct BraceLeft) ∷ mid) after

  -- Selection* `}`
  pub data AreSelections : tree.Selections → List Token → List Token → Type 0 where
    no_more_selections : {p : Place} {after : List Token}
        → AreSelections tree.no_selection (at p (Punct BraceRight) ∷ after) after
    next_selection : {s : tree.Selection} {others : tree.Selections} {before mid after : List Token}
        → IsSelection s before mid → AreSelections others mid after
        → AreSelections (tree.and_selection s others) before after

-- ---- definitions

-- Default?: `=` Value, a constant one
pub data IsDefault : Option tree.Value → List Token → List Token → Type 0 where
  no_default : {after : List Token} → IsDefault None after after
  default : {p : Place} {v : tree.Value} {mid after : List Token} → IsValue Const v mid after
      → IsDefault (Some v) (at p (Punct Equals) ∷ mid) after

-- VarDef: `$` Name `:` Type Default? Directives, constant ones
pub data IsVariable : tree.VariableDefinition → List Token → List Token → Type 0 where
  variable_definition : {p q r : Place} {k : Keyword} {n : List ℕ} {t : tree.TypeTree}
      {v : Option tree.Value} {ds : List tree.Directive} {mid mid' mid'' after : List Token}
      → IsType t mid mid' → IsDefault v mid' mid'' → AreDirectives Const ds mid'' after
      → IsVariable (record { place = p; name = n; of_type = t; default = v; directives = ds })
      (at p (Punct Dollar) ∷ at q (Name k n) ∷ at r (Punct Colon) ∷ mid) after

-- VarDef* `)`
pub data AreVariables : List tree.VariableDefinition → List Token → List Token → Type 0 where
  no_more_variables : {p : Place} {after : List Token}
      → AreVariables [] (at p (Punct ParenRight) ∷ after) after
  next_variable : {v : tree.VariableDefinition} {others : List tree.VariableDefinition}
      {before mid after : List Token}
      → IsVariable v before mid → AreVariables others mid after
      → AreVariables (v ∷ others) before after

-- VarDefs?: `(` VarDef+ `)`
pub data AreOptionalVariables : List tree.VariableDefinition → List Token
    → List Token → Type 0 where
  no_variables : {after : List Token} → AreOptionalVariables [] after after
  variables : {p : Place} {v : tree.VariableDefinition} {others : List tree.VariableDefinition}
      {mid mid' after : List Token}
      → IsVariable v mid mid' → AreVariables others mid' after
      → AreOptionalVariables (v ∷ others) (at p (Punct ParenLeft) ∷ mid) after

-- Name?
pub data IsOptionalName : Option (List ℕ) → List Token → List Token → Type 0 where
  no_name : {after : List Token} → IsOptionalName None after after
  a_name : {p : Place} {k : Keyword} {n : List ℕ} {after : List Token}
      → IsOptionalName (Some n) (at p (Name k n) ∷ after) after

-- Kind: `query`, `mutation`, `subscription`
pub data IsKind : OperationKind → Keyword → Type 0 where
  query : IsKind kind.Query Query
  mutation : IsKind kind.Mutation Mutation
  subscription : IsKind kind.Subscription Subscription

-- Operation: SelectionSet, or Kind Name? VarDefs? Directives SelectionSet
pub data IsOperation : tree.Operation → List Token → List Token → Type 0 where
  shorthand : {p : Place} {ss : tree.Selections} {before after : List Token}
      → IsSelectionSet (tree.set_at p ss) before after
      → IsOperation (record {
        place = p;
        kind = kind.Query;
        name = None;
        variables = [];
        directives = [];
        selection_set = tree.set_at p ss;
      }) before after
  operation : {p : Place} {o : OperationKind} {k : Keyword} {w : List ℕ} {n : Option (List ℕ)}
      {vs : List tree.VariableDefinition} {ds : List tree.Directive} {s : tree.SelectionSet}
      {mid mid' mid'' mid''' after : List Token}
      → IsKind o k → IsOptionalName n mid mid' → AreOptionalVariables vs mid' mid''
      → AreDirectives NotConst ds mid'' mid''' → IsSelectionSet s mid''' after
      → IsOperation (record {
        place = p;
        kind = o;
        name = n;
        variables = vs;
        directives = ds;
        selection_set = s;
      }) (at p (Name k w) ∷ mid) after

-- Fragment: `fragment` Name (not `on`) `on` Name Directives SelectionSet
pub data IsFragment : tree.Fragment → List Token → List Token → Type 0 where
  fragment : {p q r u : Place} {k k' : Keyword} {w w' n t : List ℕ} {ds : List tree.Directive}
      {s : tree.SelectionSet} {mid mid' after : List Token}
      → IsFragmentName k → AreDirectives NotConst ds mid mid' → IsSelectionSet s mid' after
      → IsFragment (record {
        place = p;
        name = n;
        condition = record { place = u; name = t };
        directives = ds;
        selection_set = s;
      })
      (at p (Name Fragment w) ∷ at q (Name k n) ∷ at r (Name On w') ∷ at u (Name k' t) ∷ mid) after

-- (Operation or Fragment)*, and the end
pub data AreDefinitions : List tree.Operation → List tree.Fragment → List Token → Type 0 where
  no_more_definitions : AreDefinitions [] [] []
  next_operation : {o : tree.Operation} {os : List tree.Operation} {fs : List tree.Fragment}
      {before mid : List Token}
      → IsOperation o before mid → AreDefinitions os fs mid → AreDefinitions (o ∷ os) fs before
  next_fragment : {f : tree.Fragment} {os : List tree.Operation} {fs : List tree.Fragment}
      {before mid : List Token}
      → IsFragment f before mid → AreDefinitions os fs mid → AreDefinitions os (f ∷ fs) before

-- Document: (Operation or Fragment)+
pub record IsDocument (d : tree.Document) (tokens : List Token) : Type 0 where
  pub some : tokens ≢ []
  pub are : AreDefinitions d.operations d.fragments tokens
