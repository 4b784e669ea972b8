-- Definitions of what the text of an answer holds after some puts.
use Rattle.std.specs.Prelude.{◌≡◌, ℕ, Bool, true, false, List, [], ◌∷◌, ◌++◌, Option, Some, None, Box, codes}
use Rattle.std.specs.List.{list_all, flat_map}
use Rattle.std.specs.declared.alloc.Global.{Global}
use Rattle.text_place.specs.declared.place.Place.{Place}
use Rattle.json.specs.Token.{Token, begin_object, key}
use Rattle.plan_walk.specs.Puts.{Put}
use Rattle.gq_resolve.specs.ReadBack.{StandsAt, AreInOrder, at_root, all_taken}
use Rattle.gq_resolve.specs.Texted.{WrittenOf, put_all, nothing_written, written_of}
use Rattle.gq_resolve.specs.Written.{is_plain, put_tokens}
use Rattle.gq_resolve.specs.declared.answer_text.AnswerText.{AnswerText}
use Rattle.gq_resolve.specs.declared.completed_text.CompletedText.{CompletedText}

-- the start of an answer without errors, up to its data
abbrev pub data_tokens : List Token → List Token
data_tokens ts = begin_object ∷ key (codes "data") ∷ ts

-- gives what is written after these puts, within a limit
abbrev pub after_puts : ℕ → List Put → WrittenOf
after_puts most ps = put_all ps (nothing_written most)

-- the puts are without errors, and their tokens were written
pub record IsPlainText (most : ℕ) (ps : List Put) (a : AnswerText) : Type 0 where
  pub plain : list_all is_plain ps ≡ true
  pub tokens : a.writer.tokens ≡ data_tokens (flat_map put_tokens ps)
  pub place : a.place ≡ (after_puts most ps).place

-- it is completed to this
abbrev pub IsCompletedTo : WrittenOf → Option (Box CompletedText Global) → Type 0
IsCompletedTo w None = ⊥
IsCompletedTo w (Some text) = written_of text.value ≡ w

abbrev pub HasTextBy : Bool → ℕ → List Put → AnswerText → Type 0
HasTextBy true most ps a = IsPlainText most ps a
HasTextBy false most ps a = IsCompletedTo (after_puts most ps) a.completed

-- it has the text after these puts, within this limit
pub record IsTextOf (most : ℕ) (ps : List Put) (a : AnswerText) : Type 0 where
  pub limit : a.most ≡ most
  pub text : HasTextBy a.is_plain most ps a

-- Where these follow in order whatever was put before, it then has the text after both.
abbrev pub TakesAll : List Put → AnswerText → AnswerText → Type 0
TakesAll ps old new = (most : ℕ) (qs : List Put) (t : StandsAt) → AreInOrder (qs ++ ps) at_root t
    → IsTextOf most qs old → IsTextOf most (qs ++ ps) new

abbrev pub Takes : Put → AnswerText → AnswerText → Type 0
Takes p old new = TakesAll (p ∷ []) old new

-- What was read back of these tokens, which are those of a text without errors from its start on. Errors have this place.
abbrev pub IsReadBackOf : List Token → ℕ → Place → CompletedText → Type 0
IsReadBackOf ts most place text = (us : List Token) → ts ≡ data_tokens us
    → written_of text ≡ record (all_taken us (nothing_written most)) { place = place }

-- it goes on as a text of which this is written
pub record IsCompletedAs (a : AnswerText) (w : WrittenOf) (most : ℕ) : Type 0 where
  pub plain : a.is_plain ≡ false
  pub limit : a.most ≡ most
  pub text : IsCompletedTo w a.completed

-- it goes on as what was read back of these tokens
pub record IsCompleted (ts : List Token) (old new : AnswerText) : Type 0 where
  pub plain : new.is_plain ≡ false
  pub limit : new.most ≡ old.most
  pub text : (us : List Token) → ts ≡ data_tokens us → IsCompletedTo
      (record (all_taken us (nothing_written old.most)) { place = old.place }) new.completed

-- These tokens were written, without an error, or it goes on as what was read back of all tokens.
abbrev pub HasWrittenBy : Bool → List Token → AnswerText → AnswerText → Type 0
HasWrittenBy true ts old new =
    (new.writer.tokens ≡ ts) × (new.most ≡ old.most) × (new.place ≡ old.place)
HasWrittenBy false ts old new = IsCompleted ts old new

abbrev pub HasWritten : List Token → AnswerText → AnswerText → Type 0
HasWritten ts old new = HasWrittenBy new.is_plain (old.writer.tokens ++ ts) old new
