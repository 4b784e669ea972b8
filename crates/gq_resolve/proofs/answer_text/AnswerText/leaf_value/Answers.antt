use Rattle.std.proofs.Common.{◌≡◌, ◌∙◌, ◌∷◌, [], ap, subst, refl, rules, ℤ}
use Rattle.std.proofs.lemmas.Result.{on_ok_weaker}
use Rattle.execution.specs.Program.{Value, Int}
use Rattle.json.specs.Token.{string, number, boolean, null}
use Rattle.std.specs.Fmt.{signed_decimal}
use Rattle.std.proofs.lemmas.Int.{to_z-of_z}
use mir.Syntax.{w32}
use mir.Val.{to_z, of_z}
use Rattle.gq_resolve.specs.AnswerTexts.{HasWritten}
use Rattle.plan_program.specs.Prepared.{leaf_value_seen}
use Rattle.plan_walk.specs.Positions.{is_non_null}
use Rattle.plan_walk.specs.Puts.{Put, Has}
use Rattle.gq_resolve.specs.Texted.{put_one, written_of}
use Rattle.gq_resolve.specs.declared.completed_text.CompletedText.{CompletedText}
use Rattle.gq_resolve.proofs.Taking.{takes-completed, takes-token}
use Rattle.gq_resolve.proofs.answer_text.AnswerText.leaf_value.Goals as goal

pub returns-in-Text-default : goal.returns-in-Text-default
returns-in-Text-default c = rw c.in-Text-default.is-0 (on_ok_weaker c.put.result (λ h. takes-token _ (string c.as_str.result.now) c.args.self.now c.args.self.now _ c.if-self.true refl refl (search rules) refl (λ w e. e) h) c.put.ensures)

pub returns-in-Int-default : goal.returns-in-Int-default
returns-in-Int-default c =
    let same : to_z w32 (of_z w32 c.in-Int-default.number) ≡ c.in-Int-default.number = to_z-of_z w32 c.in-Int-default.number (search rules) in
    rw c.in-Int-default.is-0 (on_ok_weaker c.put_number.result (λ h. takes-token (Has (is_non_null c.args.nullability) (Value (Int c.in-Int-default.number))) (number (signed_decimal c.in-Int-default.number)) c.args.self.now c.args.self.now c.put_number.new.self c.if-self.true refl refl refl refl (λ w e. e)
    (subst (λ (z : ℤ). HasWritten (number (signed_decimal z) ∷ []) c.args.self.now c.put_number.new.self) same h)) c.put_number.ensures)

pub returns-in-Bool-default : goal.returns-in-Bool-default
returns-in-Bool-default c = rw c.in-Bool-default.is-0 (on_ok_weaker c.put-in-Bool-default.result (λ h. takes-token _ (boolean c.in-Bool-default.value) c.args.self.now c.args.self.now _ c.if-self.true refl refl refl refl (λ w e. e) h) c.put-in-Bool-default.ensures)

pub returns-in-Null-Nullable : goal.returns-in-Null-Nullable
returns-in-Null-Nullable c = rw (c.in-Null-Nullable.is-0, c.in-Null-Nullable.is-1) (on_ok_weaker c.put-in-Null-Nullable.result (λ h. takes-token _ null c.args.self.now c.args.self.now _ c.if-self.true refl refl refl refl (λ w e. e) h) c.put-in-Null-Nullable.ensures)

pub returns-in-Some : goal.returns-in-Some
returns-in-Some c =
    let p : Put = Has (is_non_null c.args.nullability) (leaf_value_seen c.args.leaf_value.now) in
    on_ok_weaker c.leaf_value.result (λ h. takes-completed p c.args.self.now _ c.in-Some.text _ c.if-self.false c.if-self.false refl c.in-Some.is refl (h ∙ ap (λ (x : CompletedText). put_one p (written_of x)) c.deref_mut.ensures.value)) c.leaf_value.ensures
