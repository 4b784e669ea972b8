use Rattle.std.proofs.lemmas.Result.{err_from_is_err_and}
use Rattle.schema_syntax.proofs.Steps.{fails_earlier}
use Rattle.schema_syntax.proofs.Lists.{no_default_read, default_opens, default_read}
use Rattle.schema_syntax.proofs.parser.Parser.default.Goals as goal

pub returns-then-not-eat-clause-reads : goal.returns-then-not-eat-clause-reads
returns-then-not-eat-clause-reads c = no_default_read _ _ _ c.if-not-eat.ensures

pub returns-in_err-value-clause-reads : goal.returns-in_err-value-clause-reads
returns-in_err-value-clause-reads c =
    let p = err_from_is_err_and c.from_residual.result c.from_residual.ensures.1 in
    rw (p.1, p.2) (λ stack. fails_earlier _ _ _ (default_opens _ _ _ stack c.if-not-eat.ensures) (c.in_err-value.ensures.reads stack))

pub returns-clause-reads : goal.returns-clause-reads
returns-clause-reads c = default_read _ c.in_ok-value.field-0 _ _ _ c.if-not-eat.ensures c.in_ok-value.ensures.reads
