-- Lemmas on what `lex` answers, by what the text is.
use Rattle.std.proofs.Common.{Option, Some, None, ◌≡◌, ◌≢◌, ◌⊎◌, ℕ, List, IfOk, IfErr, MatchResult, All, IsUtf8, Result, Ok, Err, refl, ap, inl, inr}
use Rattle.std.specs.Global.{Vec}
use Rattle.text_place.specs.declared.place.Place.{Place}
use Rattle.gq_lexer.specs.declared.token.Token.{Token}
use Rattle.gq_lexer.specs.declared.scan.ScanFault.{ScanFault}
use Rattle.gq_lexer.specs.declared.scan.ScanFault.TheVariants as stop
use Rattle.gq_lexer.specs.declared.fault.LexFault.{LexFault}
use Rattle.gq_lexer.specs.declared.fault.LexFault.TheVariants as fault
use Rattle.gq_lexer.specs.Tokens.{AreTokens, StopsAt, IsToken}
use Rattle.std.specs.declared.alloc.AllocError.{AllocError}
use Rattle.gq_lexer.specs.declared.lexer.LexedText.{LexedText}
use Rattle.gq_lexer.specs.Faults.{IsFirstFault, IsLexed, fault_of}
use Rattle.gq_lexer.proofs.Unique.{same_tokens, tokens_or_fault, same_fault}
use Rattle.gq_lexer.proofs.Inside.{tokens_inside, lexed_inside}

-- a first fault of a text of tokens is want of memory
pub only_memory : (text : List ℕ) (tokens : List Token) (f : LexFault) → AreTokens text tokens → IsFirstFault f text → f ≢ fault.TooLong → f ≡ fault.NoMemory
only_memory text tokens fault.TooLong t h short = absurd (short refl)
only_memory text tokens (fault.BadCharacter place) t h short = absurd (tokens_or_fault text tokens stop.BadCharacter place t h)
only_memory text tokens (fault.UnterminatedString place) t h short = absurd (tokens_or_fault text tokens stop.UnterminatedString place t h)
only_memory text tokens (fault.BadEscape place) t h short = absurd (tokens_or_fault text tokens stop.BadEscape place t h)
only_memory text tokens (fault.BadNumber place) t h short = absurd (tokens_or_fault text tokens stop.BadNumber place t h)
only_memory text tokens fault.NoMemory t h short = refl

same_stop : (text : List ℕ) (s t : ScanFault) (p q : Place) → StopsAt text s p → StopsAt text t q → fault_of s p ≡ fault_of t q
same_stop text s t p q h k = let same = same_fault text s t p q h k in λ i. fault_of (same.0 i) (same.1 i)

-- a first fault of a text with a fault is this one, or want of memory
pub that_fault : (text : List ℕ) (s : ScanFault) (place : Place) (f : LexFault) → StopsAt text s place → IsFirstFault f text → f ≢ fault.TooLong → (f ≡ fault_of s place) ⊎ (f ≡ fault.NoMemory)
that_fault text s place fault.TooLong t h short = absurd (short refl)
that_fault text s place (fault.BadCharacter p) t h short = inl (same_stop text stop.BadCharacter s p place h t)
that_fault text s place (fault.UnterminatedString p) t h short = inl (same_stop text stop.UnterminatedString s p place h t)
that_fault text s place (fault.BadEscape p) t h short = inl (same_stop text stop.BadEscape s p place h t)
that_fault text s place (fault.BadNumber p) t h short = inl (same_stop text stop.BadNumber s p place h t)
that_fault text s place fault.NoMemory t h short = inr refl

-- ---- the same for what is answered

abbrev Answer : Type 0
Answer = Result (Vec Token) LexFault

pub all_inside : (text : List ℕ) (r : Answer) → IsUtf8 text → IfOk r (λ (v : Vec Token). AreTokens text v.items) → IfOk r (λ (v : Vec Token). All (IsToken text) v.items)
all_inside text (Ok v) utf8 h = tokens_inside text v.items utf8 h
all_inside text (Err f) utf8 h = tt

pub accepted : (text : List ℕ) (r : Answer) → IfOk r (λ (v : Vec Token). AreTokens text v.items) → IfErr r (λ (f : LexFault). IsFirstFault f text) → r ≢ Err fault.TooLong → (tokens : List Token) → AreTokens text tokens
    → MatchResult r (λ (v : Vec Token). v.items ≡ tokens) (λ (f : LexFault). f ≡ fault.NoMemory)
accepted text (Ok v) h k short tokens t = same_tokens text v.items tokens h t
accepted text (Err f) h k short tokens t = only_memory text tokens f t k (λ e. short (ap (λ (g : LexFault). Err g) e))

pub refused : (text : List ℕ) (r : Answer) → IfOk r (λ (v : Vec Token). AreTokens text v.items) → IfErr r (λ (f : LexFault). IsFirstFault f text) → r ≢ Err fault.TooLong → (s : ScanFault) (place : Place) → StopsAt text s place
    → MatchResult r (λ (v : Vec Token). ⊥) (λ (f : LexFault). (f ≡ fault_of s place) ⊎ (f ≡ fault.NoMemory))
refused text (Ok v) h k short s place t = tokens_or_fault text v.items s place h t
refused text (Err f) h k short s place t = that_fault text s place f t k (λ e. short (ap (λ (g : LexFault). Err g) e))

pub front_inside : (text : List ℕ) (r : Result LexedText AllocError) → IsUtf8 text → IfOk r (λ (l : LexedText). IsLexed text l.tokens.items l.fault) → IfOk r (λ (l : LexedText). All (IsToken text) l.tokens.items)
front_inside text (Ok l) utf8 h = lexed_inside text l.tokens.items l.fault utf8 h
front_inside text (Err e) utf8 h = tt

lexed_accepts : (text : List ℕ) (tokens ts : List Token) (f : Option LexFault) → IsLexed text tokens f → AreTokens text ts → (f ≡ None) × (tokens ≡ ts)
lexed_accepts text tokens ts None h t = (refl, same_tokens text tokens ts h t)
lexed_accepts text tokens ts (Some f) h t = absurd (tokens_or_fault text ts h.stop h.place t h.stops)

pub front_accepts : (text : List ℕ) (r : Result LexedText AllocError) → IfOk r (λ (l : LexedText). IsLexed text l.tokens.items l.fault) → (ts : List Token) → AreTokens text ts → IfOk r (λ (l : LexedText). (l.fault ≡ None) × (l.tokens.items ≡ ts))
front_accepts text (Ok l) h ts t = lexed_accepts text l.tokens.items ts l.fault h t
front_accepts text (Err e) h ts t = tt
