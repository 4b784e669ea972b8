-- Reading by what is still expected, a token at a time. No promise to a caller speaks of it: the parser's own methods are proved against
-- it.
use Rattle.std.specs.Prelude.{ℕ, zero, suc, Bool, true, false, not, List, [], ◌∷◌, ◌++◌, Option, Some, None, if◌then◌else◌}
use Rattle.gq_lexer.specs.declared.token.Punct.TheVariants.{Bang, Amp, ParenLeft, ParenRight, Colon, Equals, At, BracketLeft, BracketRight, BraceLeft, BraceRight, Pipe}
use Rattle.gq_parser.specs.declared.keyword.Keyword.{Keyword}
use Rattle.gq_parser.specs.declared.keyword.Keyword.TheVariants.{Query, Mutation, Subscription, True, False, Null}
use Rattle.gq_parser.specs.Word.{Word, Punct, Name, Int, Float, Text, Token, at}
use Rattle.gq_parser.specs.Fault.{Bracket, Opening, Closing, Neither, bracket}
use Rattle.schema_syntax.specs.declared.word.SchemaWord.{SchemaWord}
use Rattle.schema_syntax.specs.declared.word.SchemaWord.TheVariants as word
use Rattle.schema_syntax.specs.declared.fault.TokenFault.{TokenFault}
use Rattle.schema_syntax.specs.declared.fault.TokenFault.TheVariants.{Unexpected, NotServed}
use Rattle.schema_syntax.specs.Word.{word_of}

-- one token of a kind
pub data Terminal : Type 0 where
  AColon : Terminal
  AnEquals : Terminal
  ABracket : Terminal
  AParenthesis : Terminal
  AName : Terminal
  ATypeName : Terminal
  -- the type name in a list
  AnItem : Terminal
  AnEnumName : Terminal
  AText : Terminal
  ADeprecated : Terminal
  AReason : Terminal
  AQuery : Terminal
  -- the brace that ends `schema`
  ARootEnd : Terminal

-- says what is expected; where a `Bool` stands, whether the list may be at its end
pub data Symbol : Type 0 where
  A : Terminal → Symbol
  -- a definition without a description
  ADefinition : Symbol
  RootBody : Symbol
  ObjectBody : Symbol
  FirstInterface : Symbol
  MoreInterfaces : Symbol
  InterfaceBody : Symbol
  EnumBody : Symbol
  Fields : Bool → Symbol
  MaybeArguments : Symbol
  Arguments : Bool → Symbol
  MaybeDefault : Symbol
  AType : Symbol
  MaybeBang : Symbol
  MaybeDeprecated : Symbol
  MaybeReason : Symbol
  EnumValues : Bool → Symbol
  MaybePipe : Symbol
  MoreMembers : Symbol
  AValue : Symbol
  MoreValues : Symbol
  MoreObjectFields : Symbol

-- a token's move: it is taken and these symbols are expected then, or nothing was there and it
-- comes after that, or it can't come, or it would but isn't served
pub data Move : Type 0 where
  Takes : List Symbol → Move
  Skips : Move
  Refuses : Move
  Denies : Move

abbrev pub one : Symbol → List Symbol
one s = s ∷ []

-- a field, after its name
abbrev pub a_field_then : List Symbol
a_field_then = MaybeArguments ∷ A AColon ∷ AType ∷ MaybeDeprecated ∷ one (Fields true)

-- an argument, after its name
abbrev pub an_argument_then : List Symbol
an_argument_then = A AColon ∷ AType ∷ MaybeDefault ∷ one (Arguments true)

-- an enum's value, after its name
abbrev pub a_value_then : List Symbol
a_value_then = MaybeDeprecated ∷ one (EnumValues true)

abbrev pub a_root : List Symbol
a_root = A AQuery ∷ A AColon ∷ A ATypeName ∷ one (A ARootEnd)

abbrev pub a_union_then : List Symbol
a_union_then = A AnEquals ∷ MaybePipe ∷ A ATypeName ∷ one MoreMembers

-- tells whether a token is of a kind; or it would be, but isn't served
pub data Verdict : Type 0 where
  Accepts : Verdict
  Rejects : Verdict
  Bars : Verdict

abbrev pub on_verdict : Verdict → List Symbol → Move
on_verdict Accepts symbols = Takes symbols
on_verdict Rejects symbols = Refuses
on_verdict Bars symbols = Denies

abbrev pub type_name_verdict : SchemaWord → Verdict
type_name_verdict word.Float = Bars
type_name_verdict _ = Accepts

abbrev pub enum_name_verdict : Keyword → Verdict
enum_name_verdict True = Rejects
enum_name_verdict False = Rejects
enum_name_verdict Null = Rejects
enum_name_verdict _ = Accepts

abbrev pub deprecated_verdict : SchemaWord → Verdict
deprecated_verdict word.Deprecated = Accepts
deprecated_verdict _ = Rejects

abbrev pub reason_verdict : SchemaWord → Verdict
reason_verdict word.Reason = Accepts
reason_verdict _ = Rejects

abbrev pub query_verdict : Keyword → Verdict
query_verdict Query = Accepts
query_verdict Mutation = Bars
query_verdict Subscription = Bars
query_verdict _ = Rejects

abbrev pub root_end_verdict : Keyword → Verdict
root_end_verdict Mutation = Bars
root_end_verdict Subscription = Bars
root_end_verdict _ = Rejects

abbrev pub implements_verdict : SchemaWord → Verdict
implements_verdict word.Implements = Accepts
implements_verdict _ = Rejects

abbrev pub no_implements_verdict : SchemaWord → Verdict
no_implements_verdict word.Implements = Bars
no_implements_verdict _ = Rejects

-- the list ends, where it may
abbrev pub end_verdict : Bool → Verdict
end_verdict true = Accepts
end_verdict false = Rejects

abbrev pub verdict : Terminal → Word → Verdict
verdict AColon (Punct Colon) = Accepts
verdict AColon _ = Rejects
verdict AnEquals (Punct Equals) = Accepts
verdict AnEquals _ = Rejects
verdict ABracket (Punct BracketRight) = Accepts
verdict ABracket _ = Rejects
verdict AParenthesis (Punct ParenRight) = Accepts
verdict AParenthesis _ = Rejects
verdict AName (Name k n) = Accepts
verdict AName _ = Rejects
verdict ATypeName (Name k n) = type_name_verdict (word_of n)
verdict ATypeName _ = Rejects
verdict AnItem (Name k n) = type_name_verdict (word_of n)
verdict AnItem (Punct BracketLeft) = Bars
verdict AnItem _ = Rejects
verdict AnEnumName (Name k n) = enum_name_verdict k
verdict AnEnumName _ = Rejects
verdict AText (Text s) = Accepts
verdict AText _ = Rejects
verdict ADeprecated (Name k n) = deprecated_verdict (word_of n)
verdict ADeprecated _ = Rejects
verdict AReason (Name k n) = reason_verdict (word_of n)
verdict AReason _ = Rejects
verdict AQuery (Name k n) = query_verdict k
verdict AQuery _ = Rejects
verdict ARootEnd (Punct BraceRight) = Accepts
verdict ARootEnd (Name k n) = root_end_verdict k
verdict ARootEnd _ = Rejects

-- gives what is expected after the word that a definition begins with
abbrev pub body_move : SchemaWord → Move
body_move word.Schema = Takes (one RootBody)
body_move word.Object = Takes (A ATypeName ∷ one ObjectBody)
body_move word.Interface = Takes (A ATypeName ∷ one InterfaceBody)
body_move word.Union = Takes (A ATypeName ∷ a_union_then)
body_move word.Enum = Takes (A ATypeName ∷ one EnumBody)
body_move word.Unserved = Denies
body_move _ = Refuses

abbrev pub definition_move : Word → Move
definition_move (Name k n) = body_move (word_of n)
definition_move _ = Refuses

abbrev pub top_move : Word → Move
top_move (Text s) = Takes (one ADefinition)
top_move w = definition_move w

abbrev pub move : Symbol → Word → Move
move (A x) w = on_verdict (verdict x w) []
move ADefinition w = definition_move w
move RootBody (Punct BraceLeft) = Takes a_root
move RootBody _ = Refuses
move ObjectBody (Name k n) = on_verdict (implements_verdict (word_of n)) (one FirstInterface)
move ObjectBody (Punct BraceLeft) = Takes (one (Fields false))
move ObjectBody _ = Refuses
move FirstInterface (Punct Amp) = Takes (A ATypeName ∷ one MoreInterfaces)
move FirstInterface (Name k n) = on_verdict (type_name_verdict (word_of n)) (one MoreInterfaces)
move FirstInterface _ = Refuses
move MoreInterfaces (Punct Amp) = Takes (A ATypeName ∷ one MoreInterfaces)
move MoreInterfaces (Punct BraceLeft) = Takes (one (Fields false))
move MoreInterfaces _ = Refuses
move InterfaceBody (Name k n) = on_verdict (no_implements_verdict (word_of n)) []
move InterfaceBody (Punct BraceLeft) = Takes (one (Fields false))
move InterfaceBody _ = Refuses
move EnumBody (Punct BraceLeft) = Takes (one (EnumValues false))
move EnumBody _ = Refuses
move (Fields some) (Text s) = Takes (A AName ∷ a_field_then)
move (Fields some) (Name k n) = Takes a_field_then
move (Fields some) (Punct BraceRight) = on_verdict (end_verdict some) []
move (Fields some) _ = Refuses
move MaybeArguments (Punct ParenLeft) = Takes (one (Arguments false))
move MaybeArguments _ = Skips
move (Arguments some) (Text s) = Takes (A AName ∷ an_argument_then)
move (Arguments some) (Name k n) = Takes an_argument_then
move (Arguments some) (Punct ParenRight) = on_verdict (end_verdict some) []
move (Arguments some) _ = Refuses
move MaybeDefault (Punct Equals) = Takes (one AValue)
move MaybeDefault _ = Skips
move AType (Name k n) = on_verdict (type_name_verdict (word_of n)) (one MaybeBang)
move AType (Punct BracketLeft) = Takes (A AnItem ∷ MaybeBang ∷ A ABracket ∷ one MaybeBang)
move AType _ = Refuses
move MaybeBang (Punct Bang) = Takes []
move MaybeBang _ = Skips
move MaybeDeprecated (Punct At) = Takes (A ADeprecated ∷ one MaybeReason)
move MaybeDeprecated _ = Skips
move MaybeReason (Punct ParenLeft) = Takes (A AReason ∷ A AColon ∷ A AText ∷ one (A AParenthesis))
move MaybeReason _ = Skips
move (EnumValues some) (Text s) = Takes (A AnEnumName ∷ a_value_then)
move (EnumValues some) (Name k n) = on_verdict (enum_name_verdict k) a_value_then
move (EnumValues some) (Punct BraceRight) = on_verdict (end_verdict some) []
move (EnumValues some) _ = Refuses
move MaybePipe (Punct Pipe) = Takes []
move MaybePipe _ = Skips
move MoreMembers (Punct Pipe) = Takes (A ATypeName ∷ one MoreMembers)
move MoreMembers _ = Skips
move AValue (Int n) = Takes []
move AValue (Float n) = Takes []
move AValue (Text s) = Takes []
move AValue (Name k n) = Takes []
move AValue (Punct BracketLeft) = Takes (one MoreValues)
move AValue (Punct BraceLeft) = Takes (one MoreObjectFields)
move AValue _ = Refuses
move MoreValues (Punct BracketRight) = Takes []
move MoreValues (Int n) = Takes (one MoreValues)
move MoreValues (Float n) = Takes (one MoreValues)
move MoreValues (Text s) = Takes (one MoreValues)
move MoreValues (Name k n) = Takes (one MoreValues)
move MoreValues (Punct BracketLeft) = Takes (MoreValues ∷ one MoreValues)
move MoreValues (Punct BraceLeft) = Takes (MoreObjectFields ∷ one MoreValues)
move MoreValues _ = Refuses
move MoreObjectFields (Name k n) = Takes (A AColon ∷ AValue ∷ one MoreObjectFields)
move MoreObjectFields (Punct BraceRight) = Takes []
move MoreObjectFields _ = Refuses

pub data Shift : Type 0 where
  Shifts : List Symbol → Shift
  Refused : Shift
  Denied : Shift

abbrev pub moved : Move → List Symbol → Shift → Shift
moved (Takes symbols) stack skipped = Shifts (symbols ++ stack)
moved Skips stack skipped = skipped
moved Refuses stack skipped = Refused
moved Denies stack skipped = Denied

-- gives what is expected after a word; with nothing expected another definition may come
abbrev pub shift : List Symbol → Word → Shift
shift [] w = moved (top_move w) [] Refused
shift (s ∷ stack) w = moved (move s w) stack (shift stack w)

-- the name that follows an `@` is another than `deprecated`
abbrev pub is_deprecated : SchemaWord → Bool
is_deprecated word.Deprecated = true
is_deprecated _ = false

abbrev pub is_other_directive : Word → List Token → Bool
is_other_directive (Punct At) (at q (Name k n) ∷ rest) = not (is_deprecated (word_of n))
is_other_directive (Punct At) _ = false
is_other_directive _ tokens = false

-- the fault where the first of these tokens, or the end, can't come
abbrev pub refused : List Token → TokenFault
refused [] = Unexpected None
refused (at p (Punct At) ∷ at q (Name k n) ∷ rest) = NotServed p
refused (at p _ ∷ rest) = Unexpected (Some p)

-- after one token: the room for brackets and what is expected, or a fault
pub data Step : Type 0 where
  Goes : ℕ → List Symbol → Step
  Stops : Step
  Forbids : Step
  Sinks : Step

abbrev pub entered : Bracket → ℕ → List Symbol → Step
entered Opening zero next = Sinks
entered Opening (suc room) next = Goes room next
entered Closing room next = Goes (suc room) next
entered Neither room next = Goes room next

abbrev pub step : ℕ → List Symbol → Word → List Token → Step
step room stack w tokens =
    elim (shift stack w) [
      | Refused ↦ Stops
      | Denied ↦ Forbids
      | Shifts next ↦
          if is_other_directive w tokens then Forbids else entered (bracket w) room next
    ]

-- nothing is left, and this is expected
abbrev pub at_end : List Symbol → Option TokenFault
at_end [] = None
at_end (MaybeArguments ∷ stack) = at_end stack
at_end (MaybeDefault ∷ stack) = at_end stack
at_end (MaybeBang ∷ stack) = at_end stack
at_end (MaybeDeprecated ∷ stack) = at_end stack
at_end (MaybeReason ∷ stack) = at_end stack
at_end (MaybePipe ∷ stack) = at_end stack
at_end (MoreMembers ∷ stack) = at_end stack
at_end (_ ∷ stack) = Some (Unexpected None)

-- the first fault, if there is one
abbrev pub read : ℕ → List Symbol → List Token → Option TokenFault
read room stack [] = at_end stack
read room stack (at p w ∷ tokens) =
    elim (step room stack w tokens) [
      | Goes r next ↦ read r next tokens
      | Stops ↦ Some (refused (at p w ∷ tokens))
      | Forbids ↦ Some (NotServed p)
      | Sinks ↦ Some (Unexpected (Some p))
    ]
