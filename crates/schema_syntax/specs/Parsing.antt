-- Definitions of what a method of the parser does with the tokens that are left.
use Rattle.std.specs.Prelude.{◌≡◌, ◌≢◌, ◌≤◌, ℕ, Bool, true, false, List, [], ◌∷◌, ◌++◌, length, Result, Ok, Err, Option, Some, None, string_bytes, ◌<◌}
use Rattle.text_place.specs.declared.place.Place.{Place}
use Rattle.gq_lexer.specs.declared.place.LocatedText.{LocatedText}
use Rattle.gq_lexer.specs.declared.token.Punct.TheVariants.{BraceLeft, Colon}
use Rattle.gq_parser.specs.declared.value.Constness.TheVariants.{Const}
use Rattle.gq_parser.specs.declared.keyword.Keyword.{Keyword}
use Rattle.gq_parser.specs.Word.{Word, Punct, Name, Int, Float, Text, Token, at}
use Rattle.gq_parser.specs.Keywords.{keyword_of, IsEnumName}
use Rattle.gq_parser.specs.declared.keyword.Keyword.TheVariants.{Query}
use Rattle.gq_parser.specs.Tree as values
use Rattle.gq_parser.specs.Tree.{TypeTree, Named, ListOf, literal_of}
use Rattle.gq_parser.specs.Grammar.{IsType, IsValue}
use Rattle.gq_parser.specs.declared.tree.Value.{Value}
use Rattle.gq_parser.specs.declared.tree.Literal.{Literal}
use Rattle.std.specs.declared.string.String.{String}
use Rattle.std.specs.declared.alloc.Global.{Global}
use Rattle.schema_syntax.specs.declared.word.SchemaWord.{SchemaWord}
use Rattle.schema_syntax.specs.declared.tree.Definition as rust-definition
use Rattle.schema_syntax.specs.declared.fault.TokenFault as rust
use Rattle.schema_syntax.specs.declared.fault.TokenFault.TheVariants.{Unexpected, NotServed, NoMemory}
use Rattle.schema_syntax.specs.Word.{word_of}
use Rattle.schema_syntax.specs.Tree as tree
use Rattle.schema_syntax.specs.Tree.{Definition, definition_of, definitions_of}
use Rattle.schema_syntax.specs.declared.tree.SchemaDocument as rust-document
use Rattle.schema_syntax.specs.Grammar.{IsServedType, IsTypeName, IsAmpersand, AreMoreInterfaces, AreInterfaces, IsPipe, AreMoreMembers, IsBody, IsDocument}
use Rattle.schema_syntax.specs.Machine.{Symbol, AValue, read, refused}

abbrev pub Fails : rust.TokenFault → Option rust.TokenFault → Type 0
Fails (Unexpected place) outcome = outcome ≡ Some (Unexpected place)
Fails (NotServed place) outcome = outcome ≡ Some (NotServed place)
Fails NoMemory outcome = Unit {0}

-- Reading takes the tokens of a tree that it gives, and changes what is expected from one list of
-- symbols and room for brackets to another, whatever else is expected behind. A fault that it gives
-- is the first one.
abbrev pub Reads : {T : Type 0} → (T → List Token → List Token → Type 0) → (room : ℕ)
    → (symbols : List Symbol) → (room_after : ℕ) → (symbols_after : List Symbol)
    → List Token → List Token → Result T rust.TokenFault → Type 0
Reads IsTree room symbols room_after symbols_after before after (Ok tree) =
    IsTree tree before after × ((stack : List Symbol)
    → read room (symbols ++ stack) before ≡ read room_after (symbols_after ++ stack) after)
Reads IsTree room symbols room_after symbols_after before after (Err stop) = (stack : List Symbol)
    → Fails stop (read room (symbols ++ stack) before)

-- the word is not next
abbrev pub IsNotNext : Word → List Token → Type 0
IsNotNext w [] = Unit {0}
IsNotNext w (at p first ∷ rest) = first ≢ w

-- the tree that was read is the body of a type, wherever its word was
abbrev pub IsTypeBody : SchemaWord → rust-definition.Definition → List Token → List Token → Type 0
IsTypeBody w d before after = (place : Place) → IsBody w place (definition_of d) before after

-- this word was taken
pub record IsTaken (w : Word) (old new : List Token) : Type 0 where
  pub place : Place
  pub is : old ≡ at place w ∷ new

abbrev pub Eats : Word → List Token → List Token → Bool → Type 0
Eats w old new true = IsTaken w old new
Eats w old new false = (new ≡ old) × IsNotNext w old

-- a punctuator that was taken, if it was next
abbrev pub TakesMark : Word → List Token → List Token → Option Place → Type 0
TakesMark w old new (Some place) = old ≡ at place w ∷ new
TakesMark w old new None = (new ≡ old) × IsNotNext w old

-- no name is next
abbrev pub IsNoName : List Token → Type 0
IsNoName [] = Unit {0}
IsNoName (at p (Name k n) ∷ rest) = ⊥
IsNoName (at p _ ∷ rest) = Unit {0}

-- this name was taken
abbrev pub IsNameTaken : Place → List ℕ → List Token → List Token → Type 0
IsNameTaken place name old new = old ≡ at place (Name (keyword_of name) name) ∷ new

abbrev pub Expects : {T : Type 0} → Word → List Token
    → List Token → Result T rust.TokenFault → Type 0
Expects w old new (Ok x) = IsTaken w old new
Expects w old new (Err stop) = (stop ≡ refused old) × IsNotNext w old

-- no string is next
abbrev pub IsNoText : List Token → Type 0
IsNoText [] = Unit {0}
IsNoText (at p (Text s) ∷ rest) = ⊥
IsNoText (at p _ ∷ rest) = Unit {0}

-- the string that was next was taken, if one was
pub record IsTextTaken (old new : List Token) : Type 0 where
  pub place : Place
  pub text : List ℕ
  pub is : old ≡ at place (Text text) ∷ new

abbrev pub Describes : List Token → List Token → Bool → Type 0
Describes old new true = IsTextTaken old new
Describes old new false = (new ≡ old) × IsNoText old

-- the string that was next was taken with its place and its value, if one was
abbrev pub TakesText : List Token → List Token → Option (LocatedText (String Global)) → Type 0
TakesText old new (Some t) = old ≡ at t.place (Text (string_bytes t.value)) ∷ new
TakesText old new None = (new ≡ old) × IsNoText old

-- no number is next
abbrev pub IsNoInt : List Token → Type 0
IsNoInt [] = Unit {0}
IsNoInt (at p (Int n) ∷ rest) = ⊥
IsNoInt (at p _ ∷ rest) = Unit {0}

abbrev pub IsNoFloat : List Token → Type 0
IsNoFloat [] = Unit {0}
IsNoFloat (at p (Float n) ∷ rest) = ⊥
IsNoFloat (at p _ ∷ rest) = Unit {0}

-- a name is this value
abbrev pub IsNameValue : List ℕ → Value → Type 0
IsNameValue name v =
    (p : Place) (after : List Token) → IsValue Const (literal_of (record { place = p; value = v }))
    (at p (Name (keyword_of name) name) ∷ after) after

-- the value of the number that was next, if one was; else the fault
pub record IsNumberRead (l : Literal) (old new : List Token) : Type 0 where
  pub is : IsValue Const (literal_of l) old new
  pub reads : (room : ℕ) (stack : List Symbol)
      → read room (AValue ∷ stack) old ≡ read room stack new
  pub shrinks : length new < length old

abbrev pub NumberReads : List Token → List Token → Result Literal rust.TokenFault → Type 0
NumberReads old new (Ok l) = IsNumberRead l old new
NumberReads old new (Err NoMemory) = Unit {0}
NumberReads old new (Err stop) = (stop ≡ refused old) × IsNoInt old × IsNoFloat old

-- a type that is served
pub record IsTypeRead (t : TypeTree) (before after : List Token) : Type 0 where
  pub is : IsType t before after
  pub served : IsServedType t

-- a type that is no list
abbrev pub IsNamed : TypeTree → Type 0
IsNamed (Named p n b) = Unit {0}
IsNamed (ListOf p t b) = ⊥

-- a field of an object value
pub record IsMemberRead (a : values.Argument) (before after : List Token) : Type 0 where
  pub keyword : Keyword
  pub colon : Place
  pub rest : List Token
  pub begins : before ≡ at a.place (Name keyword a.name) ∷ at colon (Punct Colon) ∷ rest
  pub is : IsValue Const a.value rest after

-- a name that an enum's value may have
pub record IsEnumNameRead (n : tree.Name) (before after : List Token) : Type 0 where
  pub keyword : Keyword
  pub begins : before ≡ at n.place (Name keyword n.text) ∷ after
  pub is : IsEnumName keyword

-- the word `query`
pub record IsQueryTaken (before after : List Token) : Type 0 where
  pub place : Place
  pub name : List ℕ
  pub begins : before ≡ at place (Name Query name) ∷ after

-- the interfaces behind `implements`
pub record AreSomeInterfaces (names : List tree.Name) (before after : List Token) : Type 0 where
  pub first : tree.Name
  pub others : List tree.Name
  pub mid : List Token
  pub mid' : List Token
  pub all : names ≡ first ∷ others
  pub ampersand : IsAmpersand before mid
  pub is : IsTypeName first mid mid'
  pub are : AreMoreInterfaces others mid' after

-- the interfaces that a type implements, and the brace behind them
pub record AreInterfacesRead (is : List tree.Name) (before after : List Token) : Type 0 where
  pub place : Place
  pub are : AreInterfaces is before (at place (Punct BraceLeft) ∷ after)

-- the members of a union, behind its `=`
pub record AreMembersRead (ms : List tree.Name) (before after : List Token) : Type 0 where
  pub first : tree.Name
  pub others : List tree.Name
  pub mid : List Token
  pub mid' : List Token
  pub all : ms ≡ first ∷ others
  pub pipe : IsPipe before mid
  pub is : IsTypeName first mid mid'
  pub are : AreMoreMembers others mid' after

-- the word that says what a definition defines, and its body
pub record IsDefinitionRead (d : Definition) (before after : List Token) : Type 0 where
  pub place : Place
  pub keyword : Keyword
  pub name : List ℕ
  pub rest : List Token
  pub begins : before ≡ at place (Name keyword name) ∷ rest
  pub is : IsBody (word_of name) place d rest after

-- A list was read up to here, where a list begins that ends it: whatever AreRest finds here makes up what AreWhole finds
-- from the beginning, and the rest is what is expected.
pub record IsFront {T W : Type 0} (AreRest : T → List Token → List Token → Type 0)
    (AreWhole : W → List Token → List Token → Type 0) (join : T → W)
    (room : ℕ) (symbols : List Symbol) (room_now : ℕ) (symbols_now : List Symbol)
    (before now : List Token) : Type 0 where
  pub joins : (others : T) (after : List Token)
      → AreRest others now after → AreWhole (join others) before after
  pub reads : (stack : List Symbol)
      → read room (symbols ++ stack) before ≡ read room_now (symbols_now ++ stack) now
  pub shrinks : length now ≤ length before

-- Definitions were read up to here.
pub record IsDocumentFront (room : ℕ) (definitions : List Definition)
    (before now : List Token) : Type 0 where
  pub joins : (others : List Definition) → IsDocument others now
      → IsDocument (definitions ++ others) before
  pub reads : read room [] before ≡ read room [] now

-- this tree was found, unless memory ran out
abbrev pub Finds : List Definition → Result rust-document.SchemaDocument rust.TokenFault → Type 0
Finds ds (Ok d) = definitions_of d ≡ ds
Finds ds (Err stop) = stop ≡ NoMemory
