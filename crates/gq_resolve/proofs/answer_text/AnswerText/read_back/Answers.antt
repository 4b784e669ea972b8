use Rattle.std.proofs.Common.{◌∙◌, ℕ, ap}
use Rattle.std.proofs.lemmas.Result.{IfOk-weaker}
use Rattle.text_place.specs.declared.place.Place.{Place}
use Rattle.json.specs.Lex.{tokens}
use Rattle.gq_resolve.specs.ReadBack.{all_taken}
use Rattle.gq_resolve.specs.Texted.{nothing_written}
use Rattle.gq_resolve.proofs.answer_text.AnswerText.read_back.Goals as goal

pub returns-clause-text : goal.returns-clause-text
returns-clause-text c =
    IfOk-weaker c.read_back.result _ _ (λ back h us is. h us (ap tokens c.as_str.ensures.value ∙ c.take_plain-text.ensures.tokens ∙ is)
    ∙ ap (λ (n : ℕ). record (all_taken us (nothing_written n)) { place = c.take_plain-text.new.self.place }) c.take_plain-text.ensures.most
    ∙ ap (λ (q : Place). record (all_taken us (nothing_written c.args.self.now.most)) { place = q }) c.take_plain-text.ensures.place) c.read_back.ensures
