use Rattle.std.proofs.Common.{◌∙◌, sym, arith}
use Rattle.std.proofs.lemmas.Result.{err_from_is_err_and}
use Rattle.gq_parser.proofs.Front.{fails_earlier}
use Rattle.gq_parser.proofs.Steps.{definition_opens}
use Rattle.gq_parser.proofs.cursor.Parser.definition.Goals as goal

pub returns-in_err-shorthand-clause-reads : goal.returns-in_err-shorthand-clause-reads
returns-in_err-shorthand-clause-reads c =
    let p = err_from_is_err_and c.from_residual-in_err-shorthand.result c.from_residual-in_err-shorthand.ensures.1 in
    rw (p.1, p.2) (λ stack. fails_earlier _ _ _ (definition_opens stack (omega arith) (sym c.in_default.ensures.0 ∙ c.in-Some-take.ensures)) (c.in_err-shorthand.ensures.reads stack))
