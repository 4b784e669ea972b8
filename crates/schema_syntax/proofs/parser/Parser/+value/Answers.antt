use Rattle.std.proofs.Common.{◌∙◌, ◌∷◌, refl, arith}
use Rattle.std.proofs.lemmas.Result.{err_from_is_err_and}
use Rattle.gq_parser.specs.declared.value.Constness.TheVariants.{Const}
use Rattle.gq_parser.specs.Tree.{and_value, no_value, and_member, no_member, literal_of, argument_of}
use Rattle.gq_parser.specs.Grammar.{AreValues, AreMembers, next_value, no_more_values, no_more_members}
use Rattle.schema_syntax.specs.Machine.{A, AColon, AValue, MoreValues, MoreObjectFields}
use Rattle.schema_syntax.proofs.Front.{front_more, front_fails}
use Rattle.schema_syntax.proofs.Steps.{fails_earlier, colon_fails, colon_comes}
use Rattle.schema_syntax.proofs.Views.{values_push, members_push}
use Rattle.schema_syntax.proofs.Values.{text_read, list_opens, list_value, object_opens, object_value, value_comes, member_comes, member_read, next_member}
use Rattle.schema_syntax.proofs.parser.Parser.+value.Goals as goal

pub object_field-returns-in_err-expect-clause-reads : goal.object_field-returns-in_err-expect-clause-reads
object_field-returns-in_err-expect-clause-reads t c =
    let p = err_from_is_err_and c.from_residual-in_err-expect.result c.from_residual-in_err-expect.ensures.1 in
    rw (p.1, p.2) (λ stack. fails_earlier _ _ _ ((c.in_ok-text.ensures.reads c.args.room).1 (A AColon ∷ AValue ∷ stack)) (colon_fails c.args.room _ _ (AValue ∷ stack) c.in_err-expect.ensures))

pub object_field-returns-in_err-value-clause-reads : goal.object_field-returns-in_err-value-clause-reads
object_field-returns-in_err-value-clause-reads t c =
    let p = err_from_is_err_and c.from_residual-in_err-value.result c.from_residual-in_err-value.ensures.1 in
    rw (p.1, p.2) (λ stack. fails_earlier _ _ _ ((c.in_ok-text.ensures.reads c.args.room).1 (A AColon ∷ AValue ∷ stack) ∙ colon_comes c.args.room _ _ (AValue ∷ stack) c.in_ok-expect.ensures) (c.in_err-value.ensures.reads stack))

pub object_field-returns-clause-reads : goal.object_field-returns-clause-reads
object_field-returns-clause-reads t c = (
  rw c.from.ensures (member_read _ _ _ _ _ _ _ (c.in_ok-text.ensures.reads c.args.room).0 c.in_ok-expect.ensures c.in_ok-value.ensures.reads.0),
  λ stack. (c.in_ok-text.ensures.reads c.args.room).1 (A AColon ∷ AValue ∷ stack) ∙ colon_comes c.args.room _ _ (AValue ∷ stack) c.in_ok-expect.ensures ∙ c.in_ok-value.ensures.reads.1 stack,
)

pub object_fields-returns-in_err-object_field-clause-reads : goal.object_fields-returns-in_err-object_field-clause-reads
object_fields-returns-in_err-object_field-clause-reads t c =
    let p = err_from_is_err_and c.from_residual.result c.from_residual.ensures.1 in
    rw (p.1, p.2) (front_fails (AreMembers Const) (AreMembers Const) _ _ _ _ _ _ _ _ _ _ c.loop-fields.invariant c.loop-fields-test.ensures
    (λ h stack. fails_earlier _ _ _ (member_comes _ _ stack h) (c.in_err-object_field.ensures.reads (MoreObjectFields ∷ stack))))

pub object_fields-loop-fields-preserved : goal.object_fields-loop-fields-preserved
object_fields-loop-fields-preserved t c =
    front_more (AreMembers Const) (AreMembers Const) _ _ _ _ _ _ _ _ _ _ _ (and_member (argument_of c.in_ok-object_field.field-0).place (argument_of c.in_ok-object_field.field-0).name (argument_of c.in_ok-object_field.field-0).value) c.loop-fields.invariant c.loop-fields-test.ensures
    (λ others end rest. next_member c.in_ok-object_field.ensures.reads.0 rest)
    (λ h stack. member_comes _ _ stack h ∙ c.in_ok-object_field.ensures.reads.1 (MoreObjectFields ∷ stack))
    c.in_ok-object_field.ensures.shrinks
    (λ others. rw c.in_ok-push.ensures.items (members_push _ _ others))

pub object_fields-returns-clause-reads : goal.object_fields-returns-clause-reads
object_fields-returns-clause-reads t c =
    let eaten = c.loop-fields-test.ensures in
    (c.loop-fields.invariant.joins no_member _ (rw eaten.is no_more_members), λ stack. c.loop-fields.invariant.reads stack ∙ rw eaten.is refl)

pub value-returns-in-Some-clause-reads : goal.value-returns-in-Some-clause-reads
value-returns-in-Some-clause-reads t c = rw c.from.ensures (text_read _ _ _ _ _ (rw c.in-Some.is at c.in_ok-place.ensures))

pub value-returns-in_err-values-clause-reads : goal.value-returns-in_err-values-clause-reads
value-returns-in_err-values-clause-reads t c =
    let p = err_from_is_err_and c.from_residual-in_err-values.result c.from_residual-in_err-values.ensures.1 in
    let none = rw c.in_default.is at c.in_ok-place.ensures in
    rw (p.1, p.2) (λ stack. fails_earlier _ _ _ (list_opens _ _ _ _ _ _ _ stack none.0 c.in_default-word.ensures.0 c.in-Some-take.ensures (omega arith)) (c.in_err-values.ensures.reads stack))

pub value-returns-in-Some-take-clause-reads : goal.value-returns-in-Some-take-clause-reads
value-returns-in-Some-take-clause-reads t c =
    let none = rw c.in_default.is at c.in_ok-place.ensures in
    list_value _ _ _ c.in_ok-values.field-0 _ _ _ _ _ none.0 c.in_default-word.ensures.0 c.in-Some-take.ensures (omega arith) c.in_ok-values.ensures.reads

pub value-returns-in_err-object_fields-clause-reads : goal.value-returns-in_err-object_fields-clause-reads
value-returns-in_err-object_fields-clause-reads t c =
    let p = err_from_is_err_and c.from_residual-in_err-object_fields.result c.from_residual-in_err-object_fields.ensures.1 in
    let none = rw c.in_default.is at c.in_ok-place.ensures in
    rw (p.1, p.2) (λ stack. fails_earlier _ _ _ (object_opens _ _ _ _ _ _ _ _ stack none.0 c.in_default-word.ensures.0 c.in_default-take.ensures.0 c.in-Some-take-2.ensures (omega arith)) (c.in_err-object_fields.ensures.reads stack))

pub value-returns-in-Some-take-2-clause-reads : goal.value-returns-in-Some-take-2-clause-reads
value-returns-in-Some-take-2-clause-reads t c =
    let none = rw c.in_default.is at c.in_ok-place.ensures in
    object_value _ _ _ c.in_ok-object_fields.field-0 _ _ _ _ _ _ none.0 c.in_default-word.ensures.0 c.in_default-take.ensures.0 c.in-Some-take-2.ensures (omega arith) c.in_ok-object_fields.ensures.reads

pub values-returns-in_err-value-clause-reads : goal.values-returns-in_err-value-clause-reads
values-returns-in_err-value-clause-reads t c =
    let p = err_from_is_err_and c.from_residual.result c.from_residual.ensures.1 in
    rw (p.1, p.2) (front_fails (AreValues Const) (AreValues Const) _ _ _ _ _ _ _ _ _ _ c.loop-values.invariant c.loop-values-test.ensures
    (λ h stack. fails_earlier _ _ _ (value_comes _ _ stack h) (c.in_err-value.ensures.reads (MoreValues ∷ stack))))

pub values-loop-values-preserved : goal.values-loop-values-preserved
values-loop-values-preserved t c =
    front_more (AreValues Const) (AreValues Const) _ _ _ _ _ _ _ _ _ _ _ (and_value (literal_of c.in_ok-value.field-0)) c.loop-values.invariant c.loop-values-test.ensures
    (λ others end rest. next_value c.in_ok-value.ensures.reads.0 rest)
    (λ h stack. value_comes _ _ stack h ∙ c.in_ok-value.ensures.reads.1 (MoreValues ∷ stack))
    c.in_ok-value.ensures.shrinks
    (λ others. rw c.in_ok-push.ensures.items (values_push _ _ others))

pub values-returns-clause-reads : goal.values-returns-clause-reads
values-returns-clause-reads t c =
    let eaten = c.loop-values-test.ensures in
    (c.loop-values.invariant.joins no_value _ (rw eaten.is no_more_values), λ stack. c.loop-values.invariant.reads stack ∙ rw eaten.is refl)
