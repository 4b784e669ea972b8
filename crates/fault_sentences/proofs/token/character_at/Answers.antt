use Rattle.std.proofs.Common.{◌≡◌, ◌∙◌, ℕ, List, sym, ap, arith, below_more}
use Rattle.std.proofs.lemmas.List.{take_rest}
use Rattle.text_place.specs.declared.place.Place.{Place}
use Rattle.gq_lexer.specs.Place.{place_of}
use Rattle.fault_sentences.specs.Places.{BeginsAt}
use Rattle.fault_sentences.proofs.PlaceSteps.{place_step}
use Rattle.fault_sentences.proofs.token.character_at.Goals as goal
use Rattle.fault_sentences.proofs.token.character_at.Goals.{else-here-at-via-then-here-at+then-here-at-2+else-is_char_boundary, else-here-at-via-then-here-at+else-here-at-2, else-here-at-via-else-here-at}

line_is : (bytes text : List ℕ) (here at : Place) (i : ℕ) → here ≡ place_of bytes i → bytes ≡ text → BeginsAt text at i → here.line ≡ at.line
line_is bytes text here at i place same begins = ap (λ (p : Place). p.line) (place ∙ ap (λ t. place_of t i) same) ∙ begins.line_is

column_is : (bytes text : List ℕ) (here at : Place) (i : ℕ) → here ≡ place_of bytes i → bytes ≡ text → BeginsAt text at i → here.column ≡ at.column
column_is bytes text here at i place same begins = ap (λ (p : Place). p.column) (place ∙ ap (λ t. place_of t i) same) ∙ begins.column_is

pub loop-i-preserved : goal.loop-i-preserved
loop-i-preserved c =
    let i = c.loop-i.i in
    let bs = c.as_bytes-bytes.result.now in
    record {
      place = (rw (take_rest, c.loop-i.invariant.place) at c.next_place-here.ensures.value)
          ∙ sym (place_step (record { line = 1; column = 1 }) bs i c.loop-i-test.true);
      line = omega arith;
      column = omega arith;
      none = below_more _ _ c.loop-i.invariant.none (elim c.else-here-at.branch [
        | else-here-at-via-then-here-at+then-here-at-2+else-is_char_boundary w ↦
            λ begins. let yes = w.is_char_boundary.ensures.test.1 begins.boundary in cc
        | else-here-at-via-then-here-at+else-here-at-2 w ↦
            λ begins. w.if-here-at-2.false (column_is _ _ _ _ _ c.loop-i.invariant.place c.as_bytes-bytes.ensures.value begins)
        | else-here-at-via-else-here-at w ↦
            λ begins. w.if-here-at.false (line_is _ _ _ _ _ c.loop-i.invariant.place c.as_bytes-bytes.ensures.value begins)
      ]);
    }

pub returns-clause-none : goal.returns-clause-none
returns-clause-none c = λ i begins. c.loop-i.invariant.none i (omega (arith, begins.within, c.as_bytes-bytes.ensures.len)) begins
