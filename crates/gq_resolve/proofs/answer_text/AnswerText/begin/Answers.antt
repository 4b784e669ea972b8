use Rattle.std.proofs.Common.{◌∙◌, ap, refl}
use Rattle.std.proofs.lemmas.Result.{on_ok_weaker}
use Rattle.execution.specs.Program.{ListOf, ObjectOf}
use Rattle.json.specs.Token.{begin_array, begin_object}
use Rattle.plan_walk.specs.Positions.{kind_of}
use Rattle.plan_walk.specs.Puts.{Put, Begins}
use Rattle.gq_resolve.specs.Texted.{put_one, written_of}
use Rattle.gq_resolve.specs.declared.completed_text.CompletedText.{CompletedText}
use Rattle.gq_resolve.proofs.Taking.{takes-completed, takes-token}
use Rattle.gq_resolve.proofs.answer_text.AnswerText.begin.Goals as goal

pub returns-in-List : goal.returns-in-List
returns-in-List c = rw c.in-List.is (on_ok_weaker c.put.result (λ h. takes-token (Begins ListOf) begin_array c.args.self.now c.args.self.now _ c.if-self.true refl refl refl refl (λ w e. e) h) c.put.ensures)

pub returns-in-Object : goal.returns-in-Object
returns-in-Object c = rw c.in-Object.is (on_ok_weaker c.put-in-Object.result (λ h. takes-token (Begins ObjectOf) begin_object c.args.self.now c.args.self.now _ c.if-self.true refl refl refl refl (λ w e. e) h) c.put-in-Object.ensures)

pub returns-in-Some : goal.returns-in-Some
returns-in-Some c =
    let p : Put = Begins (kind_of c.args.kind) in
    on_ok_weaker c.begin.result (λ h. takes-completed p c.args.self.now _ c.in-Some.text _ c.if-self.false c.if-self.false refl c.in-Some.is refl (h ∙ ap (λ (x : CompletedText). put_one p (written_of x)) c.deref_mut.ensures.value)) c.begin.ensures
