use Rattle.std.proofs.Common.{◌∷◌, ◌∙◌}
use Rattle.std.proofs.lemmas.Result.{err_from_is_err_and}
use Rattle.schema_syntax.proofs.Steps.{fails_earlier}
use Rattle.schema_syntax.specs.Machine.{A, AColon, ATypeName, ARootEnd}
use Rattle.schema_syntax.proofs.Steps.{colon_fails, colon_comes}
use Rattle.schema_syntax.proofs.Bodies.{brace_comes, schema_is}
use Rattle.schema_syntax.proofs.parser.Parser.schema.Goals as goal

pub returns-in_err-expect-2-clause-reads : goal.returns-in_err-expect-2-clause-reads
returns-in_err-expect-2-clause-reads c = let p = err_from_is_err_and c.from_residual-in_err-expect-2.result c.from_residual-in_err-expect-2.ensures.1 in rw (p.1, p.2)
    (λ stack. fails_earlier _ _ _ (brace_comes _ _ stack c.in_ok-expect.ensures ∙ (c.in_ok-query.ensures.reads 127).1 (A AColon ∷ A ATypeName ∷ A ARootEnd ∷ stack)) (colon_fails 127 _ _ (A ATypeName ∷ A ARootEnd ∷ stack) c.in_err-expect-2.ensures))

pub returns-in_err-query-2-clause-reads : goal.returns-in_err-query-2-clause-reads
returns-in_err-query-2-clause-reads c = let p = err_from_is_err_and c.from_residual-in_err-query-2.result c.from_residual-in_err-query-2.ensures.1 in rw (p.1, p.2)
    (λ stack. fails_earlier _ _ _ (brace_comes _ _ stack c.in_ok-expect.ensures ∙ (c.in_ok-query.ensures.reads 127).1 (A AColon ∷ A ATypeName ∷ A ARootEnd ∷ stack) ∙ colon_comes 127 _ _ (A ATypeName ∷ A ARootEnd ∷ stack) c.in_ok-expect-2.ensures) (c.in_err-query-2.ensures.reads 127 (A ARootEnd ∷ stack)))

pub returns-in_err-root_end-clause-reads : goal.returns-in_err-root_end-clause-reads
returns-in_err-root_end-clause-reads c = let p = err_from_is_err_and c.from_residual-in_err-root_end.result c.from_residual-in_err-root_end.ensures.1 in rw (p.1, p.2)
    (λ stack. fails_earlier _ _ _ (brace_comes _ _ stack c.in_ok-expect.ensures ∙ (c.in_ok-query.ensures.reads 127).1 (A AColon ∷ A ATypeName ∷ A ARootEnd ∷ stack) ∙ colon_comes 127 _ _ (A ATypeName ∷ A ARootEnd ∷ stack) c.in_ok-expect-2.ensures ∙ (c.in_ok-query-2.ensures.reads 127).1 (A ARootEnd ∷ stack)) (c.in_err-root_end.ensures.reads stack))

pub returns-clause-reads : goal.returns-clause-reads
returns-clause-reads c = (
  schema_is c.in_ok-expect.ensures.is (c.in_ok-query.ensures.reads 127).0.begins c.in_ok-expect-2.ensures.is (c.in_ok-query-2.ensures.reads 127).0 c.in_ok-root_end.ensures.reads.0.is,
  λ stack. brace_comes _ _ stack c.in_ok-expect.ensures ∙ (c.in_ok-query.ensures.reads 127).1 (A AColon ∷ A ATypeName ∷ A ARootEnd ∷ stack) ∙ colon_comes 127 _ _ (A ATypeName ∷ A ARootEnd ∷ stack) c.in_ok-expect-2.ensures ∙ (c.in_ok-query-2.ensures.reads 127).1 (A ARootEnd ∷ stack) ∙ c.in_ok-root_end.ensures.reads.1 stack,
)
