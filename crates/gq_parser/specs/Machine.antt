-- Reading by what is still expected, a token at a time. No promise to a caller speaks of it: the parser's own methods are proved against
-- it.
use Rattle.std.specs.Prelude.{ℕ, zero, suc, List, [], ◌∷◌, ◌++◌, Option, Some, None}
use Rattle.text_place.specs.declared.place.Place.{Place}
use Rattle.gq_lexer.specs.declared.token.Punct.TheVariants.{Bang, Dollar, ParenLeft, ParenRight, Spread, Colon, Equals, At, BracketLeft, BracketRight, BraceLeft, BraceRight}
use Rattle.gq_parser.specs.declared.value.Constness.{Constness}
use Rattle.gq_parser.specs.declared.value.Constness.TheVariants.{Const, NotConst}
use Rattle.gq_parser.specs.declared.keyword.Keyword.TheVariants.{Query, Mutation, Subscription, Fragment, On}
use Rattle.gq_parser.specs.Word.{Word, Punct, Name, Int, Float, Text, Token, at}
use Rattle.gq_parser.specs.Fault.{Bracket, Opening, Closing, Neither, bracket}

-- says what is expected; a value that is `Const` has no variables
pub data Symbol : Type 0 where
  AName : Symbol
  AFragmentName : Symbol
  AnOn : Symbol
  AColon : Symbol
  AValue : Constness → Symbol
  MoreValues : Constness → Symbol
  MoreMembers : Constness → Symbol
  AType : Symbol
  ABracket : Symbol
  MaybeBang : Symbol
  MaybeArguments : Constness → Symbol
  MoreArguments : Constness → Symbol
  MaybeDirectives : Constness → Symbol
  AfterName : Symbol
  AfterDots : Symbol
  MaybeSet : Symbol
  ASet : Symbol
  FirstSelection : Symbol
  MoreSelections : Symbol
  MaybeDefault : Symbol
  FirstVariable : Symbol
  MoreVariables : Symbol
  MaybeVariables : Symbol
  MaybeName : Symbol
  ADefinition : Symbol

-- a token's move: it is taken and these symbols are expected then, or nothing was there and it
-- comes after that, or it can't come
pub data Move : Type 0 where
  Takes : List Symbol → Move
  Skips : Move
  Refuses : Move

abbrev pub one : Symbol → List Symbol
one s = s ∷ []

-- Name `:` Value
abbrev pub an_argument : Constness → List Symbol
an_argument constness = AName ∷ AColon ∷ one (AValue constness)

-- a field, after its first name
abbrev pub a_field_then : List Symbol
a_field_then = AfterName ∷ MaybeArguments NotConst ∷ MaybeDirectives NotConst ∷ one MaybeSet

-- an inline fragment, after its condition
abbrev pub an_inline_then : List Symbol
an_inline_then = MaybeDirectives NotConst ∷ one ASet

-- a variable's definition, after its `$`
abbrev pub a_variable_then : List Symbol
a_variable_then = AName ∷ AColon ∷ AType ∷ MaybeDefault ∷ one (MaybeDirectives Const)

-- an operation, after its kind
abbrev pub an_operation_then : List Symbol
an_operation_then = MaybeName ∷ MaybeVariables ∷ an_inline_then

-- a fragment, after its first word
abbrev pub a_fragment_then : List Symbol
a_fragment_then = AFragmentName ∷ AnOn ∷ AName ∷ an_inline_then

-- a variable may not be part of what is `Const`
abbrev pub unless : Constness → List Symbol → Move
unless Const symbols = Refuses
unless NotConst symbols = Takes symbols

abbrev pub move : Symbol → Word → Move
move AName (Name k n) = Takes []
move AName _ = Refuses
move AFragmentName (Name On n) = Refuses
move AFragmentName (Name k n) = Takes []
move AFragmentName _ = Refuses
move AnOn (Name On n) = Takes []
move AnOn _ = Refuses
move AColon (Punct Colon) = Takes []
move AColon _ = Refuses
move (AValue c) (Int n) = Takes []
move (AValue c) (Float n) = Takes []
move (AValue c) (Text s) = Takes []
move (AValue c) (Name k n) = Takes []
move (AValue c) (Punct Dollar) = unless c (one AName)
move (AValue c) (Punct BracketLeft) = Takes (one (MoreValues c))
move (AValue c) (Punct BraceLeft) = Takes (one (MoreMembers c))
move (AValue c) _ = Refuses
move (MoreValues c) (Punct BracketRight) = Takes []
move (MoreValues c) (Int n) = Takes (one (MoreValues c))
move (MoreValues c) (Float n) = Takes (one (MoreValues c))
move (MoreValues c) (Text s) = Takes (one (MoreValues c))
move (MoreValues c) (Name k n) = Takes (one (MoreValues c))
move (MoreValues c) (Punct Dollar) = unless c (AName ∷ one (MoreValues c))
move (MoreValues c) (Punct BracketLeft) = Takes (MoreValues c ∷ one (MoreValues c))
move (MoreValues c) (Punct BraceLeft) = Takes (MoreMembers c ∷ one (MoreValues c))
move (MoreValues c) _ = Refuses
move (MoreMembers c) (Name k n) = Takes (AColon ∷ AValue c ∷ one (MoreMembers c))
move (MoreMembers c) (Punct BraceRight) = Takes []
move (MoreMembers c) _ = Refuses
move AType (Name k n) = Takes (one MaybeBang)
move AType (Punct BracketLeft) = Takes (AType ∷ ABracket ∷ one MaybeBang)
move AType _ = Refuses
move ABracket (Punct BracketRight) = Takes []
move ABracket _ = Refuses
move MaybeBang (Punct Bang) = Takes []
move MaybeBang _ = Skips
move (MaybeArguments c) (Punct ParenLeft) =
    Takes (AName ∷ AColon ∷ AValue c ∷ one (MoreArguments c))
move (MaybeArguments c) _ = Skips
move (MoreArguments c) (Name k n) = Takes (AColon ∷ AValue c ∷ one (MoreArguments c))
move (MoreArguments c) (Punct ParenRight) = Takes []
move (MoreArguments c) _ = Refuses
move (MaybeDirectives c) (Punct At) = Takes (AName ∷ MaybeArguments c ∷ one (MaybeDirectives c))
move (MaybeDirectives c) _ = Skips
move AfterName (Punct Colon) = Takes (one AName)
move AfterName _ = Skips
move AfterDots (Name On n) = Takes (AName ∷ an_inline_then)
move AfterDots (Name k n) = Takes (one (MaybeDirectives NotConst))
move AfterDots (Punct At) = Takes (AName ∷ MaybeArguments NotConst ∷ an_inline_then)
move AfterDots (Punct BraceLeft) = Takes (one FirstSelection)
move AfterDots _ = Refuses
move MaybeSet (Punct BraceLeft) = Takes (one FirstSelection)
move MaybeSet _ = Skips
move ASet (Punct BraceLeft) = Takes (one FirstSelection)
move ASet _ = Refuses
move FirstSelection (Name k n) = Takes
    (AfterName ∷ MaybeArguments NotConst ∷ MaybeDirectives NotConst ∷ MaybeSet ∷ one MoreSelections)
move FirstSelection (Punct Spread) = Takes (AfterDots ∷ one MoreSelections)
move FirstSelection _ = Refuses
move MoreSelections (Name k n) = Takes
    (AfterName ∷ MaybeArguments NotConst ∷ MaybeDirectives NotConst ∷ MaybeSet ∷ one MoreSelections)
move MoreSelections (Punct Spread) = Takes (AfterDots ∷ one MoreSelections)
move MoreSelections (Punct BraceRight) = Takes []
move MoreSelections _ = Refuses
move MaybeDefault (Punct Equals) = Takes (one (AValue Const))
move MaybeDefault _ = Skips
move FirstVariable (Punct Dollar) =
    Takes (AName ∷ AColon ∷ AType ∷ MaybeDefault ∷ MaybeDirectives Const ∷ one MoreVariables)
move FirstVariable _ = Refuses
move MoreVariables (Punct Dollar) =
    Takes (AName ∷ AColon ∷ AType ∷ MaybeDefault ∷ MaybeDirectives Const ∷ one MoreVariables)
move MoreVariables (Punct ParenRight) = Takes []
move MoreVariables _ = Refuses
move MaybeVariables (Punct ParenLeft) = Takes (one FirstVariable)
move MaybeVariables _ = Skips
move MaybeName (Name k n) = Takes []
move MaybeName _ = Skips
move ADefinition (Punct BraceLeft) = Takes (one FirstSelection)
move ADefinition (Name Query n) = Takes an_operation_then
move ADefinition (Name Mutation n) = Takes an_operation_then
move ADefinition (Name Subscription n) = Takes an_operation_then
move ADefinition (Name Fragment n) = Takes a_fragment_then
move ADefinition _ = Refuses

abbrev pub moved : Move → List Symbol → Option (List Symbol) → Option (List Symbol)
moved (Takes symbols) stack skipped = Some (symbols ++ stack)
moved Skips stack skipped = skipped
moved Refuses stack skipped = None

-- gives what is expected after a word that may come; with nothing expected another definition may come
abbrev pub shift : List Symbol → Word → Option (List Symbol)
shift [] w = moved (move ADefinition w) [] None
shift (s ∷ stack) w = moved (move s w) stack (shift stack w)

-- after one token: the room for brackets and what is expected, or a fault
pub data Step : Type 0 where
  Goes : ℕ → List Symbol → Step
  Stops : Step
  Sinks : Step

abbrev pub entered : Bracket → ℕ → List Symbol → Step
entered Opening zero next = Sinks
entered Opening (suc room) next = Goes room next
entered Closing room next = Goes (suc room) next
entered Neither room next = Goes room next

abbrev pub step : ℕ → List Symbol → Word → Step
step room stack w =
    elim (shift stack w) [ None ↦ Stops | Some next ↦ entered (bracket w) room next ]

-- says how a reading ends: where something is unexpected, or nowhere at the end, or where a bracket is too deep
pub data Outcome : Type 0 where
  Done : Outcome
  Stopped : Option Place → Outcome
  Sunk : Place → Outcome

-- nothing is left, and this is expected
abbrev pub at_end : List Symbol → Outcome
at_end [] = Done
at_end (MaybeBang ∷ stack) = at_end stack
at_end (MaybeArguments c ∷ stack) = at_end stack
at_end (MaybeDirectives c ∷ stack) = at_end stack
at_end (AfterName ∷ stack) = at_end stack
at_end (MaybeSet ∷ stack) = at_end stack
at_end (MaybeDefault ∷ stack) = at_end stack
at_end (MaybeVariables ∷ stack) = at_end stack
at_end (MaybeName ∷ stack) = at_end stack
at_end (_ ∷ stack) = Stopped None

abbrev pub read : ℕ → List Symbol → List Token → Outcome
read room stack [] = at_end stack
read room stack (at p w ∷ tokens) = elim (step room stack w)
    [ Goes r next ↦ read r next tokens | Stops ↦ Stopped (Some p) | Sinks ↦ Sunk p ]
