use Rattle.std.proofs.Common.{◌∷◌, ◌∙◌}
use Rattle.std.proofs.lemmas.Result.{err_from_is_err_and}
use Rattle.schema_syntax.proofs.Steps.{fails_earlier}
use Rattle.schema_syntax.specs.Machine.{EnumBody}
use Rattle.schema_syntax.proofs.Steps.{enum_fails}
use Rattle.schema_syntax.proofs.Bodies.{enum_comes, enum_is}
use Rattle.schema_syntax.proofs.parser.Parser.enum_type.Goals as goal

pub returns-in_err-expect-clause-reads : goal.returns-in_err-expect-clause-reads
returns-in_err-expect-clause-reads c = let p = err_from_is_err_and c.from_residual-in_err-expect.result c.from_residual-in_err-expect.ensures.1 in rw (p.1, p.2)
    (λ stack. fails_earlier _ _ _ ((c.in_ok-name.ensures.reads 128).1 (EnumBody ∷ stack)) (enum_fails 128 _ _ stack c.in_err-expect.ensures))

pub returns-in_err-values-clause-reads : goal.returns-in_err-values-clause-reads
returns-in_err-values-clause-reads c = let p = err_from_is_err_and c.from_residual-in_err-values.result c.from_residual-in_err-values.ensures.1 in rw (p.1, p.2)
    (λ stack. fails_earlier _ _ _ ((c.in_ok-name.ensures.reads 128).1 (EnumBody ∷ stack) ∙ enum_comes _ _ stack c.in_ok-expect.ensures) (c.in_err-values.ensures.reads stack))

pub returns-clause-reads : goal.returns-clause-reads
returns-clause-reads c = (
  λ place. enum_is (c.in_ok-name.ensures.reads 128).0 c.in_ok-expect.ensures c.in_ok-values.ensures.reads.0,
  λ stack. (c.in_ok-name.ensures.reads 128).1 (EnumBody ∷ stack) ∙ enum_comes _ _ stack c.in_ok-expect.ensures ∙ c.in_ok-values.ensures.reads.1 stack,
)
