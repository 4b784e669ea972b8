use Rattle.std.proofs.Common.{◌∷◌, ◌∙◌, true}
use Rattle.std.proofs.lemmas.Result.{err_from_is_err_and}
use Rattle.schema_syntax.specs.Machine.{A, AColon, AType, MaybeArguments, MaybeDeprecated, Fields}
use Rattle.schema_syntax.proofs.Steps.{fails_earlier, colon_fails, colon_comes}
use Rattle.schema_syntax.proofs.Lists.{field_described, field_is}
use Rattle.schema_syntax.proofs.parser.Parser.field.Goals as goal

pub returns-in_err-name-clause-reads : goal.returns-in_err-name-clause-reads
returns-in_err-name-clause-reads c = let p = err_from_is_err_and c.from_residual.result c.from_residual.ensures.1 in rw (p.1, p.2)
    (λ stack. fails_earlier _ _ _ (field_described _ _ _ _ stack c.description.ensures) (c.in_err-name.ensures.reads 127 (MaybeArguments ∷ A AColon ∷ AType ∷ MaybeDeprecated ∷ Fields true ∷ stack)))

pub returns-in_err-arguments-clause-reads : goal.returns-in_err-arguments-clause-reads
returns-in_err-arguments-clause-reads c = let p = err_from_is_err_and c.from_residual-in_err-arguments.result c.from_residual-in_err-arguments.ensures.1 in rw (p.1, p.2)
    (λ stack. fails_earlier _ _ _ (field_described _ _ _ _ stack c.description.ensures ∙ (c.in_ok-name.ensures.reads 127).1 (MaybeArguments ∷ A AColon ∷ AType ∷ MaybeDeprecated ∷ Fields true ∷ stack)) (c.in_err-arguments.ensures.reads (A AColon ∷ AType ∷ MaybeDeprecated ∷ Fields true ∷ stack)))

pub returns-in_err-expect-clause-reads : goal.returns-in_err-expect-clause-reads
returns-in_err-expect-clause-reads c = let p = err_from_is_err_and c.from_residual-in_err-expect.result c.from_residual-in_err-expect.ensures.1 in rw (p.1, p.2)
    (λ stack. fails_earlier _ _ _ (field_described _ _ _ _ stack c.description.ensures ∙ (c.in_ok-name.ensures.reads 127).1 (MaybeArguments ∷ A AColon ∷ AType ∷ MaybeDeprecated ∷ Fields true ∷ stack) ∙ c.in_ok-arguments.ensures.reads.1 (A AColon ∷ AType ∷ MaybeDeprecated ∷ Fields true ∷ stack)) (colon_fails 127 _ _ (AType ∷ MaybeDeprecated ∷ Fields true ∷ stack) c.in_err-expect.ensures))

pub returns-in_err-of_type-clause-reads : goal.returns-in_err-of_type-clause-reads
returns-in_err-of_type-clause-reads c = let p = err_from_is_err_and c.from_residual-in_err-of_type.result c.from_residual-in_err-of_type.ensures.1 in rw (p.1, p.2)
    (λ stack. fails_earlier _ _ _ (field_described _ _ _ _ stack c.description.ensures ∙ (c.in_ok-name.ensures.reads 127).1 (MaybeArguments ∷ A AColon ∷ AType ∷ MaybeDeprecated ∷ Fields true ∷ stack) ∙ c.in_ok-arguments.ensures.reads.1 (A AColon ∷ AType ∷ MaybeDeprecated ∷ Fields true ∷ stack) ∙ colon_comes 127 _ _ (AType ∷ MaybeDeprecated ∷ Fields true ∷ stack) c.in_ok-expect.ensures) (c.in_err-of_type.ensures.reads 126 (MaybeDeprecated ∷ Fields true ∷ stack)))

pub returns-in_err-skip_deprecated-clause-reads : goal.returns-in_err-skip_deprecated-clause-reads
returns-in_err-skip_deprecated-clause-reads c = let p = err_from_is_err_and c.from_residual-in_err-skip_deprecated.result c.from_residual-in_err-skip_deprecated.ensures.1 in rw (p.1, p.2)
    (λ stack. fails_earlier _ _ _ (field_described _ _ _ _ stack c.description.ensures ∙ (c.in_ok-name.ensures.reads 127).1 (MaybeArguments ∷ A AColon ∷ AType ∷ MaybeDeprecated ∷ Fields true ∷ stack) ∙ c.in_ok-arguments.ensures.reads.1 (A AColon ∷ AType ∷ MaybeDeprecated ∷ Fields true ∷ stack) ∙ colon_comes 127 _ _ (AType ∷ MaybeDeprecated ∷ Fields true ∷ stack) c.in_ok-expect.ensures ∙ (c.in_ok-of_type.ensures.reads 126).1 (MaybeDeprecated ∷ Fields true ∷ stack)) (c.in_err-skip_deprecated.ensures.reads 126 (Fields true ∷ stack)))

pub returns-clause-reads : goal.returns-clause-reads
returns-clause-reads c = (
  field_is _ c.description.ensures (c.in_ok-name.ensures.reads 127).0 c.in_ok-arguments.ensures.reads.0 c.in_ok-expect.ensures (c.in_ok-of_type.ensures.reads 126).0 (c.in_ok-skip_deprecated.ensures.reads 126).0,
  λ stack. field_described _ _ _ _ stack c.description.ensures ∙ (c.in_ok-name.ensures.reads 127).1 (MaybeArguments ∷ A AColon ∷ AType ∷ MaybeDeprecated ∷ Fields true ∷ stack) ∙ c.in_ok-arguments.ensures.reads.1 (A AColon ∷ AType ∷ MaybeDeprecated ∷ Fields true ∷ stack) ∙ colon_comes 127 _ _ (AType ∷ MaybeDeprecated ∷ Fields true ∷ stack) c.in_ok-expect.ensures ∙ (c.in_ok-of_type.ensures.reads 126).1 (MaybeDeprecated ∷ Fields true ∷ stack) ∙ (c.in_ok-skip_deprecated.ensures.reads 126).1 (Fields true ∷ stack),
)
