-- Each text is a list of parts, or has a first fault.
use Rattle.std.proofs.Common.{◌≡◌, ◌⊎◌, ℕ, suc, zero, ◌+◌, ◌-◌, ◌<◌, ltb, List, [], ◌++◌, length, drop, refl, arith, inl, inr}
use Rattle.std.proofs.lemmas.Bool.{cases_Bool, ltb-true, ltb-false}
use Rattle.text_place.specs.declared.place.Place.{Place}
use Rattle.gq_lexer.specs.declared.token.Token.{Token}
use Rattle.gq_lexer.specs.declared.scan.ScanFault.{ScanFault}
use Rattle.gq_lexer.specs.declared.scan.Front.{Front}
use Rattle.gq_lexer.specs.declared.scan.Front.TheVariants as front
use Rattle.gq_lexer.specs.Place.{place_after}
use Rattle.gq_lexer.specs.Scan.{scan}
use Rattle.gq_lexer.specs.Tokens.{token_of, AreTokens, StopsAt}
use Rattle.gq_lexer.proofs.Lexing.{IsLexed, lexed_none, lexed_more, lexed_all, is_next, stops}

abbrev IsRead : List ℕ → Type 0
IsRead text = ((tokens : List Token) × AreTokens text tokens) ⊎ ((stop : ScanFault) × (place : Place) × StopsAt text stop place)

-- going on from what is read, where less than the fuel is left
go_on : (fuel : ℕ) (text : List ℕ) (start : ℕ) (place : Place) (tokens : List Token) → length text - start < fuel → IsLexed text start place tokens → IsRead text
go_on zero text start place tokens left lexed = absurd (omega arith)
go_on (suc fuel) text start place tokens left lexed =
    elim (cases_Bool (ltb start (length text))) [
      | inl more ↦ next (λ from here found less read. go_on fuel text from here found less read) (ltb-true start (length text) more) (scan (drop start text)) refl
      | inr none ↦ inl (tokens, lexed_all text start place tokens lexed (ltb-false start (length text) none))
    ]
  where
    next : ((from : ℕ) (here : Place) (found : List Token) → length text - from < fuel → IsLexed text from here found → IsRead text) → start < length text → (f : Front) → f ≡ scan (drop start text) → IsRead text
    next others more (front.Part s n) e =
        let part = is_next text start s n lexed.within e in
        others (start + n) (place_after place (drop start text) n) (tokens ++ token_of s text start (start + n)) (omega (arith, part.found.some, part.within)) (lexed_more text start place tokens s n lexed part)
    next others more (front.Stop s at) e = inr (s, place_after place (drop start text) at, stops text start at place tokens s lexed more e)

pub each_is_read : (text : List ℕ) → ((tokens : List Token) × AreTokens text tokens) ⊎ ((stop : ScanFault) × (place : Place) × StopsAt text stop place)
each_is_read text = go_on (suc (length text)) text 0 (record { line = 1; column = 1 }) [] (omega arith) (lexed_none text)
