-- Definitions of what a method of the parser does with the tokens that are left.
use Rattle.std.specs.Prelude.{◌≡◌, ◌≢◌, ◌≤◌, ℕ, Bool, true, false, List, [], ◌∷◌, ◌++◌, length, Result, Ok, Err, Option, Some, None, MatchOption, string_bytes}
use Rattle.std.specs.Borrow.{Bor}
use Rattle.text_place.specs.declared.place.Place.{Place}
use Rattle.gq_lexer.specs.declared.place.LocatedText.{LocatedText}
use Rattle.gq_lexer.specs.declared.token.Punct.TheVariants.{Dollar, Spread, BracketLeft, BraceLeft}
use Rattle.gq_parser.specs.declared.fault.Fault as rust
use Rattle.gq_parser.specs.declared.fault.Fault.TheVariants.{Unexpected, TooDeep, NoMemory}
use Rattle.gq_parser.specs.declared.fault.ParseFault.{ParseFault}
use Rattle.gq_parser.specs.declared.fault.ParseFault.TheVariants as fault
use Rattle.gq_parser.specs.declared.tree.Document as rust-document
use Rattle.gq_parser.specs.declared.tree.Literal as rust-literal
use Rattle.gq_parser.specs.declared.tree.TypeRef as rust-type
use Rattle.gq_parser.specs.declared.tree.TypeCondition as rust-condition
use Rattle.gq_parser.specs.declared.tree.Selection as rust-selection
use Rattle.gq_parser.specs.declared.tree.SelectionSet as rust-set
use Rattle.gq_parser.specs.declared.tree.Field as rust-field
use Rattle.gq_parser.specs.declared.tree.Inline as rust-inline
use Rattle.gq_parser.specs.declared.tree.OperationKind.{OperationKind}
use Rattle.gq_parser.specs.declared.tree.Operation as rust-operation
use Rattle.gq_parser.specs.declared.tree.Fragment as rust-fragment
use Rattle.gq_lexer.specs.Place.{place_of}
use Rattle.gq_parser.specs.declared.keyword.Keyword.{Keyword}
use Rattle.gq_parser.specs.declared.selection.FieldName.{FieldName}
use Rattle.gq_parser.specs.declared.value.Constness.{Constness}
use Rattle.gq_parser.specs.declared.lexeme.Lexeme as rust-lexeme
use Rattle.gq_parser.specs.declared.lexeme.Lexeme.TheVariants as lexeme
use Rattle.gq_parser.specs.declared.definition.Definition as rust-definition
use Rattle.gq_parser.specs.declared.definition.Definition.TheVariants as definition
use Rattle.gq_parser.specs.declared.keyword.Keyword.TheVariants.{Query, Mutation, Subscription, On}
use Rattle.gq_parser.specs.declared.keyword.Keyword.TheVariants as keyword
use Rattle.gq_parser.specs.Keywords.{keyword_of, IsFragmentName}
use Rattle.gq_parser.specs.Word.{Word, Punct, Name, Int, Float, Text, Token, at}
use Rattle.gq_parser.specs.Tree.{Operation, Fragment, literal_of, type_of, condition_if, selection_of, field_of, inline_of, set_of, operation_of, fragment_of}
use Rattle.gq_parser.specs.Grammar.{IsValue, IsType, IsFieldName, IsCondition, IsSelection, IsSelectionSet, IsKind, IsOperation, IsFragment, AreDefinitions}
use Rattle.gq_parser.specs.Machine.{Symbol, ADefinition, one, Outcome, Stopped, Sunk, read}

abbrev pub Fails : rust.Fault → Outcome → Type 0
Fails (Unexpected place) outcome = outcome ≡ Stopped place
Fails (TooDeep place) outcome = outcome ≡ Sunk place
Fails NoMemory outcome = Unit {0}

-- Reading takes the tokens of a tree that it gives, and changes what is expected from one list of
-- symbols and room for brackets to another, whatever else is expected behind. A fault that it gives
-- is the first one.
abbrev pub Reads : {T : Type 0} → (T → List Token → List Token → Type 0) → (room : ℕ)
    → (symbols : List Symbol) → (room_after : ℕ) → (symbols_after : List Symbol)
    → List Token → List Token → Result T rust.Fault → Type 0
Reads IsTree room symbols room_after symbols_after before after (Ok tree) =
    IsTree tree before after × ((stack : List Symbol)
    → read room (symbols ++ stack) before ≡ read room_after (symbols_after ++ stack) after)
Reads IsTree room symbols room_after symbols_after before after (Err fault) = (stack : List Symbol)
    → Fails fault (read room (symbols ++ stack) before)

-- A tree was read that one symbol expects, and the room for brackets is what it was.
abbrev pub ReadsOne : {T : Type 0} → (T → List Token → List Token → Type 0)
    → Symbol → (room : ℕ) → List Token → List Token → Result T rust.Fault → Type 0
ReadsOne IsTree symbol room before after result =
    Reads IsTree room (one symbol) room [] before after result

-- the word is not next
abbrev pub IsNotNext : Word → List Token → Type 0
IsNotNext w [] = Unit {0}
IsNotNext w (at p first ∷ rest) = first ≢ w

-- a token that says this was taken, if it was next
abbrev pub Takes : Word → List Token → List Token → Option Place → Type 0
Takes w old new (Some p) = old ≡ at p w ∷ new
Takes w old new None = (new ≡ old) × IsNotNext w old

abbrev pub Eats : Word → List Token → List Token → Bool → Type 0
Eats w old new true = (p : Place) × (old ≡ at p w ∷ new)
Eats w old new false = (new ≡ old) × IsNotNext w old

-- gives what a lexeme says
abbrev pub says : rust-lexeme.Lexeme → Word
says (lexeme.Punct p) = Punct p
says (lexeme.Name n) = Name (keyword_of n.now) n.now
says (lexeme.Int n) = Int n.now
says (lexeme.Float n) = Float n.now
says (lexeme.Text s) = Text (string_bytes s)

-- says why no token was taken: the tokens end, or memory ran out
abbrev pub IsMissing : rust.Fault → List Token → Type 0
IsMissing (Unexpected None) tokens = tokens ≡ []
IsMissing (Unexpected (Some p)) tokens = ⊥
IsMissing (TooDeep p) tokens = ⊥
IsMissing NoMemory tokens = Unit {0}

-- no name is next
abbrev pub IsNoName : List Token → Type 0
IsNoName [] = Unit {0}
IsNoName (at p (Name k n) ∷ rest) = ⊥
IsNoName (at p _ ∷ rest) = Unit {0}

-- the name was taken, if one was next
abbrev pub TakesName : List Token → List Token → Option (LocatedText (Bor (List ℕ))) → Type 0
TakesName old new result = MatchOption result ((new ≡ old) × IsNoName old)
    (λ n. old ≡ at n.place (Name (keyword_of n.value.now) n.value.now) ∷ new)

-- the word begins no operation
abbrev pub IsNoKind : Keyword → Type 0
IsNoKind Query = ⊥
IsNoKind Mutation = ⊥
IsNoKind Subscription = ⊥
IsNoKind _ = Unit {0}

-- the tree that was read is a definition
abbrev pub IsDefinition : rust-definition.Definition → List Token → List Token → Type 0
IsDefinition (definition.Operation o) before after = IsOperation (operation_of o) before after
IsDefinition (definition.Fragment f) before after = IsFragment (fragment_of f) before after

-- ---- what was read, of a tree whose first token or tokens were read before

-- the value that a name says
abbrev pub IsNamedValue : Place → List ℕ → rust-literal.Literal → Type 0
IsNamedValue p n v = (constness : Constness) (after : List Token)
    → IsValue constness (literal_of v) (at p (Name (keyword_of n) n) ∷ after) after

abbrev pub IsTypeAfterName : Place → Keyword → List ℕ
    → rust-type.TypeRef → List Token → List Token → Type 0
IsTypeAfterName p k n t before after = IsType (type_of t) (at p (Name k n) ∷ before) after

abbrev pub IsTypeAfterBracket : Place → rust-type.TypeRef → List Token → List Token → Type 0
IsTypeAfterBracket p t before after = IsType (type_of t) (at p (Punct BracketLeft) ∷ before) after

-- the alias and the name of a field, whose first name was read
abbrev pub AreNamesAfterFirst : Place → Keyword → List ℕ
    → FieldName → List Token → List Token → Type 0
AreNamesAfterFirst p k first names before after = IsFieldName p names.alias
    names.name (at p (Name k first) ∷ before) after

abbrev pub IsFieldAfterName : Place → Keyword → List ℕ
    → rust-field.Field → List Token → List Token → Type 0
IsFieldAfterName p k first f before after =
    IsSelection (field_of f) (at p (Name k first) ∷ before) after

abbrev pub IsSelectionAfterDots : Place
    → rust-selection.Selection → List Token → List Token → Type 0
IsSelectionAfterDots p s before after =
    IsSelection (selection_of s) (at p (Punct Spread) ∷ before) after

abbrev pub IsInlineAfterCondition : Place → Option rust-condition.TypeCondition
    → rust-inline.Inline → List Token → List Token → Type 0
IsInlineAfterCondition p condition i before after =
    (mid : List Token) → IsCondition (condition_if condition) mid before
    → IsSelection (inline_of i) (at p (Punct Spread) ∷ mid) after

abbrev pub IsSetAfterBrace : Place → rust-set.SelectionSet → List Token → List Token → Type 0
IsSetAfterBrace p s before after = IsSelectionSet (set_of s) (at p (Punct BraceLeft) ∷ before) after

abbrev pub IsOperationAfterKind : Place → OperationKind
    → rust-operation.Operation → List Token → List Token → Type 0
IsOperationAfterKind p kind o before after = (k : Keyword) (w : List ℕ) → IsKind kind k
    → IsOperation (operation_of o) (at p (Name k w) ∷ before) after

-- an operation without a kind
abbrev pub IsOperationAfterBrace : Place
    → rust-operation.Operation → List Token → List Token → Type 0
IsOperationAfterBrace p o before after =
    IsOperation (operation_of o) (at p (Punct BraceLeft) ∷ before) after

abbrev pub IsFragmentAfterWord : Place → rust-fragment.Fragment → List Token → List Token → Type 0
IsFragmentAfterWord p f before after =
    (w : List ℕ) → IsFragment (fragment_of f) (at p (Name keyword.Fragment w) ∷ before) after

-- ---- single tokens

-- a dollar sign was taken, at this place
abbrev pub IsDollarTaken : Place → List Token → List Token → Type 0
IsDollarTaken p before after = before ≡ at p (Punct Dollar) ∷ after

-- this punctuator was taken
abbrev pub IsPunct : Word → List Token → List Token → Type 0
IsPunct w before after = (p : Place) × (before ≡ at p w ∷ after)

-- a name that a fragment may have was taken, and the word `on`
abbrev pub IsFragmentNameTaken : List ℕ → List Token → List Token → Type 0
IsFragmentNameTaken n before after =
    (p : Place) × (k : Keyword) × IsFragmentName k × (before ≡ at p (Name k n) ∷ after)

abbrev pub IsOnTaken : List Token → List Token → Type 0
IsOnTaken before after = (p : Place) × (w : List ℕ) × (before ≡ at p (Name On w) ∷ after)

-- this name was taken
abbrev pub IsName : Place → List ℕ → List Token → List Token → Type 0
IsName p n before after = (k : Keyword) × (before ≡ at p (Name k n) ∷ after)

-- A list was read up to here, where a list begins that ends it: whatever AreRest finds here makes up what AreWhole finds
-- from the beginning, and the rest is what is expected.
pub record IsFront {T W : Type 0} (AreRest : T → List Token → List Token → Type 0)
    (AreWhole : W → List Token → List Token → Type 0) (join : T → W)
    (room : ℕ) (symbols : List Symbol) (room_now : ℕ) (symbols_now : List Symbol)
    (before now : List Token) : Type 0 where
  pub joins : (others : T) (after : List Token)
      → AreRest others now after → AreWhole (join others) before after
  pub reads : (stack : List Symbol)
      → read room (symbols ++ stack) before ≡ read room_now (symbols_now ++ stack) now
  pub shrinks : length now ≤ length before

-- A document was read up to here.
pub record IsDocumentFront (room : ℕ) (operations : List Operation) (fragments : List Fragment)
    (before now : List Token) : Type 0 where
  pub joins : (os : List Operation) (fs : List Fragment) → AreDefinitions os fs now
      → AreDefinitions (operations ++ os) (fragments ++ fs) before
  pub reads : read room (one ADefinition) before ≡ read room (one ADefinition) now
  pub shrinks : length now ≤ length before

-- a document with one definition more
abbrev pub Adds : rust-definition.Definition
    → rust-document.Document → rust-document.Document → Type 0
Adds (definition.Operation o) old new = (new.operations.items ≡ old.operations.items ++ o ∷ [])
    × (new.fragments.items ≡ old.fragments.items)
Adds (definition.Fragment f) old new = (new.operations.items ≡ old.operations.items)
    × (new.fragments.items ≡ old.fragments.items ++ f ∷ [])

-- the fault of a text, from that of its tokens
abbrev pub parse_fault_of : rust.Fault → List ℕ → ParseFault
parse_fault_of (Unexpected (Some p)) text = fault.Unexpected p
parse_fault_of (Unexpected None) text = fault.UnexpectedEnd (place_of text (length text))
parse_fault_of (TooDeep p) text = fault.TooDeep p
parse_fault_of NoMemory text = fault.NoMemory
