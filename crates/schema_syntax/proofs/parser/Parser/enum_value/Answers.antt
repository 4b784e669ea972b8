use Rattle.std.proofs.Common.{◌∷◌, ◌∙◌, true}
use Rattle.std.proofs.lemmas.Result.{err_from_is_err_and}
use Rattle.schema_syntax.specs.Machine.{MaybeDeprecated, EnumValues}
use Rattle.schema_syntax.proofs.Steps.{fails_earlier}
use Rattle.schema_syntax.proofs.Lists.{value_described, value_is}
use Rattle.schema_syntax.proofs.parser.Parser.enum_value.Goals as goal

pub returns-in_err-name-clause-reads : goal.returns-in_err-name-clause-reads
returns-in_err-name-clause-reads c = let p = err_from_is_err_and c.from_residual.result c.from_residual.ensures.1 in rw (p.1, p.2)
    (λ stack. fails_earlier _ _ _ (value_described _ _ _ _ stack c.description.ensures) (c.in_err-name.ensures.reads 127 (MaybeDeprecated ∷ EnumValues true ∷ stack)))

pub returns-in_err-skip_deprecated-clause-reads : goal.returns-in_err-skip_deprecated-clause-reads
returns-in_err-skip_deprecated-clause-reads c = let p = err_from_is_err_and c.from_residual-in_err-skip_deprecated.result c.from_residual-in_err-skip_deprecated.ensures.1 in rw (p.1, p.2)
    (λ stack. fails_earlier _ _ _ (value_described _ _ _ _ stack c.description.ensures ∙ (c.in_ok-name.ensures.reads 127).1 (MaybeDeprecated ∷ EnumValues true ∷ stack)) (c.in_err-skip_deprecated.ensures.reads 126 (EnumValues true ∷ stack)))

pub returns-clause-reads : goal.returns-clause-reads
returns-clause-reads c = (
  value_is _ _ c.description.ensures (c.in_ok-name.ensures.reads 127).0 (c.in_ok-skip_deprecated.ensures.reads 126).0,
  λ stack. value_described _ _ _ _ stack c.description.ensures ∙ (c.in_ok-name.ensures.reads 127).1 (MaybeDeprecated ∷ EnumValues true ∷ stack) ∙ (c.in_ok-skip_deprecated.ensures.reads 126).1 (EnumValues true ∷ stack),
)
