use Rattle.std.proofs.Common.{◌≡◌, ℕ, ◌∙◌, List, get_or, below_more, sym, ap, arith}
use Rattle.std.proofs.lemmas.List.{get_or_default}
use Rattle.text_place.specs.declared.place.Place.{Place}
use Rattle.gq_lexer.specs.declared.token.Token.{Token}
use Rattle.fault_sentences.specs.Places.{IsAt}
use Rattle.fault_sentences.proofs.token.token_at.Goals as goal
use Rattle.fault_sentences.proofs.token.token_at.Goals.{else-token-at-via-then-token-at+else-token-at-2, else-token-at-via-else-token-at}

token_is : (tokens : List Token) (i : ℕ) (t d : Token) (at : Place) → IsAt at i t tokens → get_or tokens i d ≡ t
token_is tokens i t d at is = get_or_default tokens i d t is.within ∙ sym is.there

line_is : (tokens : List Token) (i : ℕ) (t d : Token) (at : Place) → IsAt at i t tokens → (get_or tokens i d).line ≡ at.line
line_is tokens i t d at is = ap (λ (u : Token). u.line) (token_is tokens i t d at is) ∙ is.line_is

column_is : (tokens : List Token) (i : ℕ) (t d : Token) (at : Place) → IsAt at i t tokens → (get_or tokens i d).column ≡ at.column
column_is tokens i t d at is = ap (λ (u : Token). u.column) (token_is tokens i t d at is) ∙ is.column_is

pub loop-i-preserved : goal.loop-i-preserved
loop-i-preserved c = below_more _ _ c.loop-i.invariant (elim c.else-token-at.branch [
  | else-token-at-via-then-token-at+else-token-at-2 w ↦ λ t is. w.if-token-at-2.false (column_is _ _ t _ _ is)
  | else-token-at-via-else-token-at w ↦ λ t is. w.if-token-at.false (line_is _ _ t _ _ is)
])

pub returns-clause-none : goal.returns-clause-none
returns-clause-none c = λ i t is. c.loop-i.invariant i (omega (arith, is.within)) t is
