-- The faults of a text, as `lex` answers them.
use Rattle.std.specs.Prelude.{◌≡◌, ◌⊎◌, ℕ, List, Option, Some, None, Result, MatchResult}
use Rattle.text_place.specs.declared.place.Place.{Place}
use Rattle.gq_lexer.specs.declared.token.Token.{Token}
use Rattle.gq_lexer.specs.declared.scan.ScanFault.{ScanFault}
use Rattle.gq_lexer.specs.declared.scan.ScanFault.TheVariants as stop
use Rattle.gq_lexer.specs.declared.fault.LexFault.{LexFault}
use Rattle.gq_lexer.specs.declared.fault.LexFault.TheVariants as fault
use Rattle.gq_lexer.specs.Tokens.{AreTokens, StopsAt, tokens_from}

-- a fault of this kind, at this place
abbrev pub fault_of : ScanFault → Place → LexFault
fault_of stop.BadCharacter place = fault.BadCharacter place
fault_of stop.UnterminatedString place = fault.UnterminatedString place
fault_of stop.BadEscape place = fault.BadEscape place
fault_of stop.BadNumber place = fault.BadNumber place

-- The fault is the first one of the text. Of the length and of memory this says nothing.
abbrev pub IsFirstFault : LexFault → List ℕ → Type 0
IsFirstFault fault.TooLong text = Unit {0}
IsFirstFault (fault.BadCharacter place) text = StopsAt text stop.BadCharacter place
IsFirstFault (fault.UnterminatedString place) text = StopsAt text stop.UnterminatedString place
IsFirstFault (fault.BadEscape place) text = StopsAt text stop.BadEscape place
IsFirstFault (fault.BadNumber place) text = StopsAt text stop.BadNumber place
IsFirstFault fault.NoMemory text = Unit {0}

-- the place that a fault has
abbrev pub place_of_fault : LexFault → Option Place
place_of_fault fault.TooLong = None
place_of_fault (fault.BadCharacter place) = Some place
place_of_fault (fault.UnterminatedString place) = Some place
place_of_fault (fault.BadEscape place) = Some place
place_of_fault (fault.BadNumber place) = Some place
place_of_fault fault.NoMemory = None

-- A value that this holds of, or memory ran out.
abbrev pub OrNoMemory : {A : Type 0} → (A → Type 0) → Result A LexFault → Type 0
OrNoMemory holds result = MatchResult result holds (λ f. f ≡ fault.NoMemory)

-- No value: this fault, or memory ran out.
abbrev pub IsRefusedWith : {A : Type 0} → LexFault → Result A LexFault → Type 0
IsRefusedWith f result = MatchResult result (λ _. ⊥) (λ g. (g ≡ f) ⊎ (g ≡ fault.NoMemory))

-- These are the tokens of the text up to its first fault, which is this one.
pub record AreTokensBefore (text : List ℕ) (tokens : List Token) (f : LexFault) : Type 0 where
  pub stop : ScanFault
  pub place : Place
  pub fault_is : f ≡ fault_of stop place
  pub stops : StopsAt text stop place
  pub tokens_are : tokens ≡ tokens_from text 0 stops.parts

-- the tokens of the text, or those up to its first fault
abbrev pub IsLexed : List ℕ → List Token → Option LexFault → Type 0
IsLexed text tokens None = AreTokens text tokens
IsLexed text tokens (Some f) = AreTokensBefore text tokens f
