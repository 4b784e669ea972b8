use Rattle.std.proofs.Common.{◌∷◌, ◌∙◌, refl, true, false}
use Rattle.std.proofs.lemmas.Result.{err_from_is_err_and}
use Rattle.schema_syntax.specs.Tree.{field_of}
use Rattle.schema_syntax.specs.Grammar.{AreFields, next_field}
use Rattle.schema_syntax.proofs.Front.{front_more, front_fails}
use Rattle.schema_syntax.proofs.Steps.{fails_earlier}
use Rattle.schema_syntax.proofs.Views.{view_push}
use Rattle.schema_syntax.proofs.Lists.{field_comes, first_field, fields_end}
use Rattle.schema_syntax.proofs.parser.Parser.fields.Goals as goal

pub loop-fields-init : goal.loop-fields-init
loop-fields-init c = first_field _ _ c.in_ok-field.field-0 _ c.in_ok-field.ensures.reads c.in_ok-field.ensures.shrinks (c.in_ok-push.ensures.items ∙ rw c.new-fields.ensures.items refl)

pub returns-in_err-field-2-clause-reads : goal.returns-in_err-field-2-clause-reads
returns-in_err-field-2-clause-reads c = let p = err_from_is_err_and c.from_residual-in_err-field-2.result c.from_residual-in_err-field-2.ensures.1 in rw (p.1, p.2)
    (front_fails (AreFields true) (AreFields false) _ _ _ _ _ _ _ _ _ _ c.loop-fields.invariant c.loop-fields-test.ensures
    (λ h stack. fails_earlier _ _ _ (field_comes _ _ stack h) (c.in_err-field-2.ensures.reads stack)))

pub loop-fields-preserved : goal.loop-fields-preserved
loop-fields-preserved c =
    front_more (AreFields true) (AreFields false) _ _ _ _ _ _ _ _ _ _ _ (λ others. field_of c.in_ok-field-2.field-0 ∷ others) c.loop-fields.invariant c.loop-fields-test.ensures
    (λ others end rest. next_field c.in_ok-field-2.ensures.reads.0 rest)
    (λ h stack. field_comes _ _ stack h ∙ c.in_ok-field-2.ensures.reads.1 stack)
    c.in_ok-field-2.ensures.shrinks
    (λ others. rw c.in_ok-push-2.ensures.items (view_push field_of _ _ others))

pub returns-clause-reads : goal.returns-clause-reads
returns-clause-reads c = fields_end _ _ _ _ c.loop-fields.invariant c.loop-fields-test.ensures
