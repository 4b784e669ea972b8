use Rattle.std.proofs.Common.{◌∙◌, ap, refl}
use Rattle.std.proofs.lemmas.Result.{on_ok_weaker}
use Rattle.execution.specs.Program.{ListOf}
use Rattle.plan_walk.specs.Positions.{item_position}
use Rattle.plan_walk.specs.Puts.{Put, Enters}
use Rattle.gq_resolve.specs.Texted.{put_one, written_of}
use Rattle.gq_resolve.specs.declared.completed_text.CompletedText.{CompletedText}
use Rattle.gq_resolve.proofs.Taking.{takes-completed, takes-item}
use Rattle.gq_resolve.proofs.answer_text.AnswerText.item.Goals as goal

pub returns-then-self : goal.returns-then-self
returns-then-self c = takes-item (item_position c.args.items c.args.number) c.args.self.now _ c.if-self.true c.if-self.true refl refl refl

pub returns-in-Some : goal.returns-in-Some
returns-in-Some c =
    let p : Put = Enters ListOf (item_position c.args.items c.args.number) in
    on_ok_weaker c.item.result (λ h. takes-completed p c.args.self.now _ c.in-Some.text _ c.if-self.false c.if-self.false refl c.in-Some.is refl (h ∙ ap (λ (x : CompletedText). put_one p (written_of x)) c.deref_mut.ensures.value)) c.item.ensures
