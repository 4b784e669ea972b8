use Rattle.std.proofs.Common.{◌∙◌, ◌∷◌, [], ap, sym, refl, List, ℕ}
use Rattle.std.proofs.lemmas.Result.{on_ok_weaker}
use Rattle.execution.specs.Program.{ObjectOf}
use Rattle.json.specs.Token.{key}
use Rattle.plan_walk.specs.Positions.{member_position}
use Rattle.plan_walk.specs.Puts.{Put, Enters}
use Rattle.gq_resolve.specs.Texted.{put_one, written_of}
use Rattle.gq_resolve.specs.declared.completed_text.CompletedText.{CompletedText}
use Rattle.gq_resolve.proofs.Taking.{takes-completed, takes-token}
use Rattle.gq_resolve.proofs.answer_text.AnswerText.field.Goals as goal

pub returns-then-self : goal.returns-then-self
returns-then-self c =
    on_ok_weaker c.put.result (λ h. takes-token (Enters ObjectOf (member_position c.args.position.now)) (key c.as_str.result.now) c.args.self.now _ _ c.if-self.true refl refl (ap (λ (k : List ℕ). key k ∷ []) (sym c.as_str.ensures)) refl (λ w e. refl) h) c.put.ensures

pub returns-in-Some : goal.returns-in-Some
returns-in-Some c =
    let p : Put = Enters ObjectOf (member_position c.args.position.now) in
    on_ok_weaker c.field.result (λ h. takes-completed p c.args.self.now _ c.in-Some.text _ c.if-self.false c.if-self.false refl c.in-Some.is refl (h ∙ ap (λ (x : CompletedText). put_one p (written_of x)) c.deref_mut.ensures.value)) c.field.ensures
