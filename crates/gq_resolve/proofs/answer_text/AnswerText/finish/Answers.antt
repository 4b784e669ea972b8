use Rattle.std.proofs.Common.{◌∷◌, ◌++◌, [], false, ap, ◌∙◌, subst, List}
use Rattle.std.proofs.lemmas.Result.{IfOk-weaker}
use Rattle.json.specs.Print.{print}
use Rattle.json.specs.Token.{Token, end_object}
use Rattle.gq_resolve.specs.AnswerTexts.{IsCompletedTo, after_puts}
use Rattle.gq_resolve.specs.Texted.{written_of}
use Rattle.plan_walk.specs.Puts.{puts}
use Rattle.gq_resolve.proofs.Limiting.{plain-answer}
use Rattle.gq_resolve.proofs.Taking.{is-plain-text, is-completed}
use Rattle.gq_resolve.proofs.answer_text.AnswerText.finish.Goals as goal

pub returns-then-self : goal.returns-then-self
returns-then-self c = λ most p R is closed.
    let text = is-plain-text most (puts false p R) c.args.self.now c.if-self.true is in
    c.take_plain.ensures.text ∙ ap print (c.in_ok-token.ensures.ok ∙ ap (λ (ts : List Token). ts ++ end_object ∷ []) text.tokens ∙ plain-answer p R text.plain)

pub returns-in-Some : goal.returns-in-Some
returns-in-Some c = IfOk-weaker c.finish.result _ _ (λ text h most p R is. h most p R (ap written_of c.deref.ensures ∙ subst (IsCompletedTo (after_puts most (puts false p R))) c.in-Some.is (is-completed most (puts false p R) c.args.self.now c.if-self.false is))) c.finish.ensures
