use Rattle.std.proofs.Common.{◌∙◌, ap, refl}
use Rattle.std.proofs.lemmas.Result.{on_ok_weaker}
use Rattle.execution.specs.Program.{ListOf, ObjectOf}
use Rattle.json.specs.Token.{end_array, end_object}
use Rattle.plan_walk.specs.Positions.{is_non_null, kind_of}
use Rattle.plan_walk.specs.Puts.{Put, Ends}
use Rattle.gq_resolve.specs.Texted.{put_one, written_of}
use Rattle.gq_resolve.specs.declared.completed_text.CompletedText.{CompletedText}
use Rattle.gq_resolve.proofs.Taking.{takes-completed, takes-token, ended-place}
use Rattle.gq_resolve.proofs.answer_text.AnswerText.end.Goals as goal

pub returns-in-List : goal.returns-in-List
returns-in-List c = rw c.in-List.is (on_ok_weaker c.put.result (λ h. takes-token (Ends ListOf (is_non_null c.args.nullability)) end_array c.args.self.now c.args.self.now _ c.if-self.true refl refl refl refl (λ w e. ended-place ListOf (is_non_null c.args.nullability) w ∙ e) h) c.put.ensures)

pub returns-in-Object : goal.returns-in-Object
returns-in-Object c = rw c.in-Object.is (on_ok_weaker c.put-in-Object.result (λ h. takes-token (Ends ObjectOf (is_non_null c.args.nullability)) end_object c.args.self.now c.args.self.now _ c.if-self.true refl refl refl refl (λ w e. ended-place ObjectOf (is_non_null c.args.nullability) w ∙ e) h) c.put-in-Object.ensures)

pub returns-in-Some : goal.returns-in-Some
returns-in-Some c =
    let p : Put = Ends (kind_of c.args.kind) (is_non_null c.args.nullability) in
    on_ok_weaker c.end.result (λ h. takes-completed p c.args.self.now _ c.in-Some.text _ c.if-self.false c.if-self.false refl c.in-Some.is refl (h ∙ ap (λ (x : CompletedText). put_one p (written_of x)) c.deref_mut.ensures.value)) c.end.ensures
