use Rattle.std.proofs.Common.{Ok, Err, inl, rules}
use Rattle.server.specs.Lines.{reporting}
use Rattle.server_traces.proofs.Captured.{serves_traced}
use Rattle.world_answers.specs.Answers.{may_tell}
use Rattle.query_run.proofs.Traced.{traced-direct}
use Rattle.query_run.proofs.tracing.trace_in_turn.Goals as goal

pub returns-in-Ok : goal.returns-in-Ok
returns-in-Ok g c =
    let served = serves_traced g.T.Write.contents (reporting may_tell) _ (λ f. f.0) (λ f line text left met. (met.1.0, met.0)) (λ f line left e met. (met.1.1, met.0)) _ _ _ _ _ (search rules) c.in-Ok.ensures in
    λ s is. (c.in-Ok.field-0, traced-direct s _ _ _ (Ok c.in-Ok.field-0) is served)

pub returns-in-Err : goal.returns-in-Err
returns-in-Err g c =
    let served = serves_traced g.T.Write.contents (reporting may_tell) _ (λ f. f.0) (λ f line text left met. (met.1.0, met.0)) (λ f line left e met. (met.1.1, met.0)) _ _ _ _ _ (search rules) c.in-Err.ensures in
    λ s is. inl (traced-direct s _ _ _ (Err c.in-Err.fault) is served)
