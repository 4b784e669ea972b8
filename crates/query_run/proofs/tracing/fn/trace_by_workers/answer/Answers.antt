use Rattle.std.proofs.Common.{refl, sym}
use Rattle.std.proofs.lemmas.Result.{err_from_is_err_and}
use Rattle.server.specs.Lines.{reporting}
use Rattle.server_traces.specs.Tracing.{traced_of}
use Rattle.server_traces.proofs.Tracing.{stops-line}
use Rattle.world_answers.specs.Answers.{may_tell}
use Rattle.query_run.proofs.Traced.{answer-traced}
use Rattle.query_run.proofs.tracing.fn.trace_by_workers.answer.Goals as goal

pub returns-in_err-answer : goal.returns-in_err-answer
returns-in_err-answer g c =
    let p = err_from_is_err_and c.from_residual.result c.from_residual.ensures.1 in
    rw (p.1, p.2) (record { served = tt; stopped = stops-line (reporting may_tell) _ (traced_of g.T.Write.contents c.captures.traced.now) _ c.args.line.now refl c.in_err-answer.ensures.stopped refl })

pub returns : goal.returns
returns g c =
    let both = answer-traced c.trace_answer.result (traced_of g.T.Write.contents c.captures.traced.now) (traced_of g.T.Write.contents c.trace_answer.new.self) c.answer_line_with.new.self c.args.line.now c.in_ok-answer.answer (sym c.trace_answer.ensures.client) c.in_ok-answer.ensures.served c.trace_answer.ensures.text c.trace_answer.ensures.traced c.trace_answer.ensures.untraced in
    record { served = both.0; stopped = both.1 }
