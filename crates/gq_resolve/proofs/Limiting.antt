-- Lemmas on the text of an answer that may have errors, and when it is too long.
use Rattle.std.proofs.lemmas.Bool.{lt-ltb}
use Rattle.std.proofs.Common.{if◌then◌else◌, ◌≡◌, ◌<◌, ◌∷◌, ◌++◌, [], ℕ, Bool, true, false, List, length, length-append, append_assoc, sym, ap, ◌∙◌, refl, arith, fold, Some, None, codes}
use Rattle.std.specs.List.{list_all, flat_map}
use Rattle.json.specs.Token.{Token, begin_object, end_object, begin_array, key}
use Rattle.json.specs.Print.{print, print_from, ends}
use Rattle.json.specs.Json.{object, member, no_members}
use Rattle.json.specs.Tree.{json_tokens, items_tokens}
use Rattle.json.proofs.Printed.Tokens.{print_from-append, ends_push}
use Rattle.answer_json.specs.Answer.{errors_json, answer_front, errors_tokens}
use Rattle.execution.specs.Loads.{Reader}
use Rattle.execution.specs.Program.{Program, Tree, tree}
use Rattle.execution.specs.Completion.{AnsweredOf, ErrorOf, ResponseOf, is_open, top_position}
use Rattle.execution.specs.Executed.{response, completed}
use Rattle.gq_resolve.specs.Answered.{json_of, errors_before, answered_json, answer_text}
use Rattle.plan_walk.specs.Puts.{puts}
use Rattle.gq_resolve.specs.Texted.{WrittenOf, put_all, nothing_written}
use Rattle.gq_resolve.proofs.Rooms.{is-text, are-errors}
use Rattle.gq_resolve.proofs.Sizes.{answer-sure}
use Rattle.gq_resolve.specs.AnswerTexts.{data_tokens}
use Rattle.gq_resolve.specs.Limited.{too_long_text, limited_text}
use Rattle.gq_resolve.specs.Written.{is_plain, put_tokens}
use Rattle.gq_resolve.proofs.Putting.{puts_tokens, IsPlain, plain-puts}
use Rattle.gq_resolve.proofs.Texting.{whole-settled}

-- ---- the parts of a text

-- the tokens of an answer, by those before its data
front-tokens : (es : List ErrorOf) (r : ResponseOf) → (answer_front es ++ json_tokens (json_of r)) ++ end_object ∷ [] ≡ json_tokens (answered_json (record { response = r; errors = es }))
front-tokens [] r = refl
front-tokens (e ∷ es) r =
    let found : List Token = items_tokens (errors_json (e ∷ es)) in
    let named : List Token = key (codes "data") ∷ [] in
    let value : List Token = json_tokens (json_of r) in
    let end : List Token = end_object ∷ [] in
    ap (λ (ts : List Token). begin_object ∷ key (codes "errors") ∷ begin_array ∷ ts) (append_assoc (found ++ named) value end ∙ append_assoc found named (value ++ end))

end-printed : (c : Bool) → print_from c (end_object ∷ []) ≡ 125 ∷ []
unfolding print_from
end-printed true = refl
end-printed false = refl

-- what is before the data, the data, and a bracket
text-parts : (es : List ErrorOf) (r : ResponseOf) → answer_text (record { response = r; errors = es }) ≡ (print (answer_front es) ++ print (json_tokens (json_of r))) ++ 125 ∷ []
text-parts es r =
    let front : List Token = answer_front es in
    let shown : List Token = json_tokens (json_of r) in
    let after : List Token → Bool = fold (λ _ u. ends u) false in
    ap print (sym (front-tokens es r))
    ∙ print_from-append false (front ++ shown) (end_object ∷ [])
    ∙ ap (λ (bytes : List ℕ). print (front ++ shown) ++ bytes) (end-printed (after (front ++ shown)))
    ∙ ap (λ (bytes : List ℕ). bytes ++ 125 ∷ []) (print_from-append false front shown ∙ ap (λ (b : Bool). print front ++ print_from b shown) (front-ends es))
  where
    front-ends : (es : List ErrorOf) → fold (λ _ u. ends u) false (answer_front es) ≡ false
    front-ends [] = refl
    front-ends (e ∷ es) = ends_push false (begin_object ∷ errors_tokens (e ∷ es)) (key (codes "data"))

-- ---- what a walk comes to

module _ (p : Program) (R : Reader) (most : ℕ) (w : WrittenOf) (is : w ≡ put_all (puts false p R) (nothing_written most)) (closed : is_open (tree p R) ≡ false) where
  abbrev pub answer : AnsweredOf
  answer = completed (tree p R)

  parts : answer_text answer ≡ (print (answer_front answer.errors) ++ print (json_tokens (json_of answer.response))) ++ 125 ∷ []
  parts = text-parts answer.errors answer.response

  -- its errors alone are too long
  pub errors-over : w.found.room ≡ None → most < length (answer_text answer)
  errors-over none =
      let less = (are-errors answer.errors most []).none (sym (ap (λ (x : WrittenOf). x.found.room) is ∙ ap (λ x. x.room) (whole-settled p R most closed).1) ∙ none) in
      omega (arith, less, answer-sure answer)

  -- its data is too long
  pub data-over : w.text.room ≡ None → most < length (answer_text answer)
  data-over none =
      let shown : List ℕ = print (json_tokens (json_of answer.response)) in
      let front : List ℕ = print (answer_front answer.errors) in
      let less = (is-text (json_tokens (json_of answer.response)) most [] false).none (sym (ap (λ (x : WrittenOf). x.text.room) is ∙ ap (λ x. x.room) (whole-settled p R most closed).0) ∙ none) in
      omega (arith, less, ap length parts, length-append (front ++ shown) (125 ∷ []), length-append front shown)

  -- it is whole
  pub answer-whole : (es : List ErrorOf) (left room : ℕ) → w.found.room ≡ Some left → es ≡ w.found.errors → w.text.room ≡ Some room → (print (answer_front es) ++ w.text.bytes) ++ 125 ∷ [] ≡ answer_text answer
  answer-whole es left room some e fits =
      let found = ap (λ (x : WrittenOf). x.found) is ∙ (whole-settled p R most closed).1 in
      let text = ap (λ (x : WrittenOf). x.text) is ∙ (whole-settled p R most closed).0 in
      ap (λ (errors : List ErrorOf). (print (answer_front errors) ++ w.text.bytes) ++ 125 ∷ [])
      (e ∙ ap (λ x. x.errors) found ∙ (are-errors answer.errors most []).some left (sym (ap (λ x. x.room) found) ∙ some))
      ∙ ap (λ (bytes : List ℕ). (print (answer_front answer.errors) ++ bytes) ++ 125 ∷ []) (ap (λ x. x.bytes) text ∙ (is-text (json_tokens (json_of answer.response)) most [] false).some room (sym (ap (λ x. x.room) text) ∙ fits))
      ∙ sym parts

-- ---- limits

-- a text that is longer than the limit is refused
pub limited-over : (most : ℕ) (text : List ℕ) → most < length text → limited_text most text ≡ too_long_text
limited-over most text lt = ap (λ (b : Bool). if b then too_long_text else text) (lt-ltb most (length text) lt)

-- ---- answers without errors

-- the tokens of an answer that was written without an error
pub plain-answer : (p : Program) (R : Reader) → list_all is_plain (puts false p R) ≡ true
    → data_tokens (flat_map put_tokens (puts false p R)) ++ end_object ∷ [] ≡ json_tokens (answered_json (completed (tree p R)))
plain-answer p R plain =
    let t : Tree = tree p R in
    let here : IsPlain false t (puts_tokens (puts false p R)) = plain-puts false p R plain in
    sym (ap (λ (es : List ErrorOf). json_tokens (object (errors_before es (member (codes "data") (json_of (response t)) no_members)))) (here.errors (top_position t).place [])
    ∙ ap (λ ts. begin_object ∷ key (codes "data") ∷ (ts ++ end_object ∷ [])) here.tokens)
