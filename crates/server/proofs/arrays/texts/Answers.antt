use Rattle.std.proofs.Common.{◌≡◌, ◌<◌, ◌++◌, ◌∷◌, [], ◌∙◌, length, drop, suc, map, option_map, sym, ap, add-one, List, ℕ, Bor, string_bytes}
use Rattle.std.proofs.lemmas.List.{map-append}
use Rattle.load_rounds.specs.declared.answer.Answer.{Answer}
use Rattle.server.specs.Arrays.{in_places}
use Rattle.server.proofs.Values.{none-left, next-refusal, next-answer, no-answer}
use Rattle.server.proofs.arrays.texts.Goals as goal
use Rattle.server.proofs.arrays.texts.Goals.{in-Some+in_ok-push, in_default+in-Some-split_first+in_ok-push-2, in_default+in_default-split_first}

pub loop-refusal-preserved : goal.loop-refusal-preserved
loop-refusal-preserved c =
    let i = c.loop-refusal.refusal-index in
    let rs = c.args.refusals.now in
    let r = c.refusal-item.result in
    let item = c.refusal-item.is in
    let lt : i < length rs = c.loop-refusal-test.true in
    let seen = λ (s : Bor (List ℕ)). s.now in
    let done = map seen c.loop-refusal.texts.items in
    let text_of = λ (a : Answer). string_bytes a.text in
    let was = c.loop-refusal.invariant in
    elim c.match-refusal.branch [
      | in-Some+in_ok-push w ↦
          let put : map seen c.match-refusal.texts.items ≡ done ++ string_bytes w.in-Some.text ∷ [] =
          ap (λ v. map seen v.items) w.texts-is ∙ ap (map seen) w.in_ok-push.ensures.items ∙ map-append seen c.loop-refusal.texts.items _ ∙ ap (λ t. done ++ t ∷ []) w.as_str.ensures.value in
          rw (put, w.left-is, add-one) (next-refusal string_bytes done rs i r w.in-Some.text (map text_of c.loop-refusal.left.now) lt (sym item ∙ w.in-Some.is) ∙ was)
      | in_default+in-Some-split_first+in_ok-push-2 w ↦
          let text = string_bytes w.in-Some-split_first.answer.now.text in
          let put : map seen c.match-refusal.texts.items ≡ done ++ text ∷ [] =
          ap (λ v. map seen v.items) w.texts-is ∙ ap (map seen) w.in_ok-push-2.ensures.items ∙ map-append seen c.loop-refusal.texts.items _ ∙ ap (λ t. done ++ t ∷ []) w.as_str-in-Some-split_first.ensures.value in
          let first = w.in-Some-split_first.ensures.cases.0 in
          rw (put, w.left-is, add-one) (next-answer string_bytes done rs i r text (map text_of w.in-Some-split_first.more.now) lt (sym item ∙ w.in_default.is)
          ∙ ap (λ xs. done ++ in_places (drop i (map (option_map string_bytes) rs)) (map text_of xs)) (sym first) ∙ was)
      | in_default+in_default-split_first w ↦
          let none : c.loop-refusal.left.now ≡ [] = none-left c.loop-refusal.left.now w.in_default-split_first.ensures.cases in
          rw (w.texts-is, w.left-is, add-one) (ap (λ xs. done ++ in_places (drop (suc i) (map (option_map string_bytes) rs)) (map text_of xs)) none
          ∙ ap (λ texts. done ++ texts) (no-answer string_bytes rs i r lt (sym item ∙ w.in_default.is))
          ∙ ap (λ xs. done ++ in_places (drop i (map (option_map string_bytes) rs)) (map text_of xs)) (sym none) ∙ was)
    ]
