use Rattle.std.proofs.Common.{◌≡◌, ℕ, ◌+◌, ◌-◌, ◌++◌, List, length, take, drop, is_ok, refl, sym, ap, subst, ◌∙◌, arith}
use Rattle.std.proofs.lemmas.List.{take_rest, length-drop}
use Rattle.std.proofs.ResultArms.{chosen}
use Rattle.text_place.specs.declared.place.Place.{Place}
use Rattle.gq_lexer.specs.Place.{place_after}
use Rattle.gq_lexer.specs.Scan.{scan}
use Rattle.gq_lexer.specs.Tokens.{token_of}
use Rattle.gq_lexer.proofs.Lexing.{IsLexed, is_next, lexed_more, tokens_before, stop_within, no_token}
use Rattle.gq_lexer.proofs.lexer.front_tokens.Goals as goal
use Rattle.gq_lexer.proofs.lexer.front_tokens.Goals.{in-Token+in_ok-push, in_default, After-front_of}

-- the rest of the text, as the code slices it
rest_is : (text bytes : List ℕ) (start : ℕ) → bytes ≡ text → take (length bytes - start) (drop start bytes) ≡ drop start text
rest_is text bytes start e = take_rest bytes start ∙ ap (drop start) e

pub place_after-requires : goal.place_after-requires
place_after-requires c =
    let text = c.args.text.now in
    let rest = rest_is text _ c.loop-start.start c.as_bytes-bytes.ensures.value in
    let within = stop_within text c.loop-start.start c.in-Stop.at c.in-Stop.stop c.loop-start.invariant.lexed.within (c.in-Stop.ensures ∙ ap scan rest) in
    record { within = omega (arith, within, ap length rest, length-drop c.loop-start.start text); line = omega (arith, within); column = omega (arith, within) }

pub returns-in-Stop : goal.returns-in-Stop
returns-in-Stop c =
    let text = c.args.text.now in
    let start = c.loop-start.start in
    let bytes = c.as_bytes-bytes.ensures.value in
    let rest = rest_is text _ start bytes in
    let before = tokens_before text start c.in-Stop.at c.loop-start.place c.loop-start.tokens.items c.in-Stop.stop c.loop-start.invariant.lexed (omega (arith, ap length bytes)) (c.in-Stop.ensures ∙ ap scan rest) in
    let place_is : c.place_after.result ≡ place_after c.loop-start.place (drop start text) c.in-Stop.at = c.place_after.ensures.value ∙ ap (λ (bs : List ℕ). place_after c.loop-start.place bs c.in-Stop.at) rest in
    rw (c.fault_of.ensures, place_is) before

pub overflow_add-end : goal.overflow_add-end
overflow_add-end c =
    let text = c.args.text.now in
    let next = is_next text c.loop-start.start c.in-Part.shape c.in-Part.len c.loop-start.invariant.lexed.within (c.in-Part.ensures ∙ ap scan (rest_is text _ c.loop-start.start c.as_bytes-bytes.ensures.value)) in
    omega (arith, next.within)

pub place_after-place-requires : goal.place_after-place-requires
place_after-place-requires c =
    let text = c.args.text.now in
    let rest = rest_is text _ c.loop-start.start c.as_bytes-bytes.ensures.value in
    let next = is_next text c.loop-start.start c.in-Part.shape c.in-Part.len c.loop-start.invariant.lexed.within (c.in-Part.ensures ∙ ap scan rest) in
    record { within = omega (arith, next.within, ap length rest, length-drop c.loop-start.start text); line = omega (arith, next.within); column = omega (arith, next.within) }

pub loop-start-smaller : goal.loop-start-smaller
loop-start-smaller c =
    let text = c.args.text.now in
    let next = is_next text c.loop-start.start c.in-Part.shape c.in-Part.len c.loop-start.invariant.lexed.within (c.in-Part.ensures ∙ ap scan (rest_is text _ c.loop-start.start c.as_bytes-bytes.ensures.value)) in
    omega (arith, next.found.some, next.within)

pub loop-start-preserved : goal.loop-start-preserved
loop-start-preserved c =
    let text = c.args.text.now in
    let start = c.loop-start.start in
    let shape = c.in-Part.shape in
    let len = c.in-Part.len in
    let lexed = c.loop-start.invariant.lexed in
    let rest = rest_is text _ start c.as_bytes-bytes.ensures.value in
    let next = is_next text start shape len lexed.within (c.in-Part.ensures ∙ ap scan rest) in
    let more = lexed_more text start c.loop-start.place c.loop-start.tokens.items shape len lexed next in
    let place_is : c.place_after-place.result ≡ place_after c.loop-start.place (drop start text) len = c.place_after-place.ensures.value ∙ ap (λ (bs : List ℕ). place_after c.loop-start.place bs len) rest in
    let pushed : c.match-shape.tokens.items ≡ c.loop-start.tokens.items ++ token_of shape text start (start + len) =
    elim c.match-shape.branch [
      | in-Token+in_ok-push w ↦
          let items = chosen _ _ _ _ w.push.ensures.items (ap is_ok w.in_ok-push.was) in
          rw (w.tokens-is, items, w.in-Token.is, ← lexed.place_is) refl
      | in_default w ↦ rw w.tokens-is (no_token shape text start (start + len) c.loop-start.tokens.items w.in_default.not-Token)
    ] in
    record {
      lexed = subst (λ (p : Place). IsLexed text (start + len) p c.match-shape.tokens.items) (sym place_is) (subst (IsLexed text (start + len) (place_after c.loop-start.place (drop start text) len)) (sym pushed) more);
      line = omega arith;
      column = omega arith;
    }

pub overflow_cast-end : goal.overflow_cast-end
overflow_cast-end c =
    let text = c.args.text.now in
    let next = is_next text c.loop-start.start c.in-Part.shape c.in-Part.len c.loop-start.invariant.lexed.within (c.in-Part.ensures ∙ ap scan (rest_is text _ c.loop-start.start c.as_bytes-bytes.ensures.value)) in
    omega (arith, next.within)
