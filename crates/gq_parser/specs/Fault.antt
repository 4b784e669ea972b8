-- Definitions of where there is no document, and the place of the fault.
use Rattle.std.specs.Prelude.{◌≡◌, ◌<◌, ◌≤◌, ℕ, zero, suc, List, [], ◌∷◌, ◌++◌, length, Option, Some, None, Result, Ok, Err}
use Rattle.text_place.specs.declared.place.Place.{Place}
use Rattle.gq_lexer.specs.declared.token.Token as lexer
use Rattle.gq_lexer.specs.declared.token.Punct.TheVariants.{ParenLeft, ParenRight, BracketLeft, BracketRight, BraceLeft, BraceRight}
use Rattle.gq_lexer.specs.declared.fault.LexFault.{LexFault}
use Rattle.gq_lexer.specs.declared.fault.LexFault.TheVariants as lex
use Rattle.gq_lexer.specs.Tokens.{AreTokens}
use Rattle.gq_lexer.specs.Faults.{IsFirstFault, place_of_fault}
use Rattle.gq_lexer.specs.Place.{place_of}
use Rattle.gq_parser.specs.declared.fault.ParseFault.{ParseFault}
use Rattle.gq_parser.specs.declared.fault.ParseFault.TheVariants as fault
use Rattle.gq_parser.specs.declared.tree.Document as rust
use Rattle.gq_parser.specs.Word.{Word, Punct, Token, at, tokens_of, AreSpelled, place_of_next}
use Rattle.gq_parser.specs.Tree.{Document, document_of}
use Rattle.gq_parser.specs.Grammar.{IsDocument}

-- the most bytes that a document may have
abbrev pub most_bytes : ℕ
most_bytes = 1048576

-- gives how many brackets may be open
abbrev pub most_brackets : ℕ
most_brackets = 128

pub data Bracket : Type 0 where
  Opening : Bracket
  Closing : Bracket
  Neither : Bracket

abbrev pub bracket : Word → Bracket
bracket (Punct BraceLeft) = Opening
bracket (Punct ParenLeft) = Opening
bracket (Punct BracketLeft) = Opening
bracket (Punct BraceRight) = Closing
bracket (Punct ParenRight) = Closing
bracket (Punct BracketRight) = Closing
bracket _ = Neither

-- says what holds of the room after a bracket
abbrev pub RoomAfter : Bracket → ℕ → (ℕ → Type 0) → Type 0
RoomAfter Opening zero P = ⊥
RoomAfter Opening (suc room) P = P room
RoomAfter Closing room P = P (suc room)
RoomAfter Neither room P = P room

-- no bracket is opened where there is no room left for one
abbrev pub IsShallow : ℕ → List Token → Type 0
IsShallow room [] = Unit {0}
IsShallow room (at p w ∷ tokens) = RoomAfter (bracket w) room (λ r. IsShallow r tokens)

-- the tokens so far are a prefix of a document
pub record IsViable (tokens : List Token) : Type 0 where
  pub document : Document
  pub more : List Token
  pub spelled : AreSpelled more
  pub is : IsDocument document (tokens ++ more)

-- says what comes after the good tokens is no part of a document that begins with them
abbrev pub IsUnexpected : List Token → List Token → Type 0
IsUnexpected good [] = (d : Document) → IsDocument d good → ⊥
IsUnexpected good (t ∷ bad) = IsViable (good ++ t ∷ []) → ⊥

-- the first token with which these are no prefix of a document is here, or at the end
pub record IsUnexpectedAt (tokens : List Token) (place : Option Place) : Type 0 where
  pub good : List Token
  pub bad : List Token
  pub whole : tokens ≡ good ++ bad
  pub placed : place_of_next bad ≡ place
  pub viable : IsViable good
  pub shallow : IsShallow most_brackets good
  pub unexpected : IsUnexpected good bad

-- a bracket is opened here that may come, while too many are open
pub record IsTooDeepAt (tokens : List Token) (place : Place) : Type 0 where
  pub good : List Token
  pub opens : Word
  pub bad : List Token
  pub whole : tokens ≡ good ++ at place opens ∷ bad
  pub viable : IsViable (good ++ at place opens ∷ [])
  pub shallow : IsShallow most_brackets good
  pub deep : IsShallow most_brackets (good ++ at place opens ∷ []) → ⊥

-- The text is this document, and no bracket in it is opened while 128 are open.
pub record IsDocumentOf (text : List ℕ) (d : Document) : Type 0 where
  pub tokens : List lexer.Token
  pub short : length text ≤ most_bytes
  pub reads : AreTokens text tokens
  pub is : IsDocument d (tokens_of text tokens)
  pub shallow : IsShallow most_brackets (tokens_of text tokens)

-- The text is no list of tokens, or too long for one.
abbrev pub IsLexFault : LexFault → List ℕ → Type 0
IsLexFault lex.TooLong text = most_bytes < length text
IsLexFault lex.NoMemory text = ⊥
IsLexFault f text = IsFirstFault f text × (length text ≤ most_bytes)

-- the text's tokens, and what holds of them
pub record OfTokens (text : List ℕ) (P : List Token → Type 0) : Type 0 where
  pub tokens : List lexer.Token
  pub short : length text ≤ most_bytes
  pub reads : AreTokens text tokens
  pub holds : P (tokens_of text tokens)

-- the first fault of the text; of memory this says nothing
abbrev pub IsParseFault : List ℕ → ParseFault → Type 0
IsParseFault text (fault.Lex f) = IsLexFault f text
IsParseFault text (fault.Unexpected p) = OfTokens text (λ tokens. IsUnexpectedAt tokens (Some p))
IsParseFault text (fault.UnexpectedEnd p) = OfTokens text (λ tokens. IsUnexpectedAt tokens None)
    × (p ≡ place_of text (length text))
IsParseFault text (fault.TooDeep p) = OfTokens text (λ tokens. IsTooDeepAt tokens p)
IsParseFault text fault.NoMemory = Unit {0}

-- the place that a fault has
abbrev pub place_of_parse_fault : ParseFault → Option Place
place_of_parse_fault (fault.Lex f) = place_of_fault f
place_of_parse_fault (fault.Unexpected p) = Some p
place_of_parse_fault (fault.UnexpectedEnd p) = Some p
place_of_parse_fault (fault.TooDeep p) = Some p
place_of_parse_fault fault.NoMemory = None

-- this document was found, unless memory ran out
abbrev pub Finds : Document → Result rust.Document ParseFault → Type 0
Finds d (Ok found) = document_of found ≡ d
Finds d (Err f) = f ≡ fault.NoMemory

-- the fault of a text that is no list of tokens
abbrev pub lexed : LexFault → ParseFault
lexed lex.NoMemory = fault.NoMemory
lexed f = fault.Lex f
