use Rattle.std.proofs.Common.{◌≡◌, ◌∷◌, ◌++◌, [], ℕ, List, ap, ◌∙◌, string_bytes}
use Rattle.json.specs.Print.{print}
use Rattle.json.specs.Token.{Token}
use Rattle.answer_json.specs.Answer.{errors_of, answer_front}
use Rattle.execution.specs.Completion.{ErrorOf}
use Rattle.gq_resolve.specs.Texted.{written_of}
use Rattle.gq_resolve.proofs.Limiting.{errors-over, data-over, answer-whole}
use Rattle.gq_resolve.proofs.completed_text.CompletedText.finish.Goals as goal

pub returns-in_default : goal.returns-in_default
returns-in_default c = λ most p R is closed. errors-over p R most (written_of c.args.self.now) is closed c.in_default.ensures.none

pub returns-in_default-whole : goal.returns-in_default-whole
returns-in_default-whole c = λ most p R is closed. data-over p R most (written_of c.args.self.now) is closed c.in_default-whole.ensures.none

pub returns : goal.returns
returns c = λ most p R is closed.
    let e = c.in-Some.ensures.some in
    let d = c.in-Some-whole.ensures.some in
    let es : List ErrorOf = errors_of c.in-Some.errors.now in
    let front : string_bytes c.writer_text-text.result ≡ print (answer_front es) =
    c.writer_text-text.ensures.text ∙ ap print (c.in_ok-begin_answer.ensures.ok ∙ ap (λ (ts : List Token). ts ++ answer_front es) c.new-writer.ensures.tokens) in
    c.in_ok-push_str-2.ensures.bytes ∙ ap (λ (bytes : List ℕ). bytes ++ 125 ∷ []) (c.in_ok-push_str.ensures.bytes ∙ ap (λ (bytes : List ℕ). bytes ++ c.in-Some-whole.data.now) front
    ∙ ap (λ (bytes : List ℕ). print (answer_front es) ++ bytes) d.2)
    ∙ answer-whole p R most (written_of c.args.self.now) is closed es e.0 d.0 e.1 e.2 d.1
