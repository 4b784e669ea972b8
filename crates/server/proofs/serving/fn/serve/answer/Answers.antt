use Rattle.std.proofs.Common.{refl}
use Rattle.std.proofs.lemmas.Result.{err_from_is_err_and}
use Rattle.load_rounds.specs.SharedRounds.{report_of}
use Rattle.server.proofs.serving.fn.serve.answer.Goals as goal

pub returns-in_err-answer_line : goal.returns-in_err-answer_line
returns-in_err-answer_line g c =
    let p = err_from_is_err_and c.from_residual.result c.from_residual.ensures.1 in
    rw (p.1, p.2) (record { served = tt; stopped = c.in_err-answer_line.ensures.stopped })

pub returns : goal.returns
returns g c = record { served = (report_of c.in_ok-answer_line.field-0, refl, c.in_ok-answer_line.ensures.served); stopped = tt }
