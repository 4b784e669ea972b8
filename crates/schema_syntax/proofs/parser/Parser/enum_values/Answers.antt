use Rattle.std.proofs.Common.{◌∷◌, ◌∙◌, refl, true, false}
use Rattle.std.proofs.lemmas.Result.{err_from_is_err_and}
use Rattle.schema_syntax.specs.Tree.{name_of}
use Rattle.schema_syntax.specs.Grammar.{AreEnumValues, next_value}
use Rattle.schema_syntax.proofs.Front.{front_more, front_fails}
use Rattle.schema_syntax.proofs.Steps.{fails_earlier}
use Rattle.schema_syntax.proofs.Views.{view_push}
use Rattle.schema_syntax.proofs.Lists.{value_comes, first_value, values_end}
use Rattle.schema_syntax.proofs.parser.Parser.enum_values.Goals as goal

pub loop-values-init : goal.loop-values-init
loop-values-init c = first_value _ _ c.in_ok-enum_value.field-0 _ c.in_ok-enum_value.ensures.reads c.in_ok-enum_value.ensures.shrinks (c.in_ok-push.ensures.items ∙ rw c.new-values.ensures.items refl)

pub returns-in_err-enum_value-2-clause-reads : goal.returns-in_err-enum_value-2-clause-reads
returns-in_err-enum_value-2-clause-reads c = let p = err_from_is_err_and c.from_residual-in_err-enum_value-2.result c.from_residual-in_err-enum_value-2.ensures.1 in rw (p.1, p.2)
    (front_fails (AreEnumValues true) (AreEnumValues false) _ _ _ _ _ _ _ _ _ _ c.loop-values.invariant c.loop-values-test.ensures
    (λ h stack. fails_earlier _ _ _ (value_comes _ _ stack h) (c.in_err-enum_value-2.ensures.reads stack)))

pub loop-values-preserved : goal.loop-values-preserved
loop-values-preserved c =
    front_more (AreEnumValues true) (AreEnumValues false) _ _ _ _ _ _ _ _ _ _ _ (λ others. name_of c.in_ok-enum_value-2.field-0 ∷ others) c.loop-values.invariant c.loop-values-test.ensures
    (λ others end rest. next_value c.in_ok-enum_value-2.ensures.reads.0 rest)
    (λ h stack. value_comes _ _ stack h ∙ c.in_ok-enum_value-2.ensures.reads.1 stack)
    c.in_ok-enum_value-2.ensures.shrinks
    (λ others. rw c.in_ok-push-2.ensures.items (view_push name_of _ _ others))

pub returns-clause-reads : goal.returns-clause-reads
returns-clause-reads c = values_end _ _ _ _ c.loop-values.invariant c.loop-values-test.ensures
