use Rattle.std.proofs.Common.{Ok, Err, inl}
use Rattle.world_answers.specs.Services.{service_of}
use Rattle.query_run.proofs.running.serve_in_turn.Goals as goal

pub returns-in-Ok-serve : goal.returns-in-Ok-serve
returns-in-Ok-serve g c =
    let direct = c.lines_are_direct.ensures (service_of c.args.service.now) c.in-Ok.client c.serve.new.client _ (Ok c.in-Ok-serve.field-0) c.in-Ok.ensures c.in-Ok-serve.ensures in
    (c.in-Ok-serve.field-0, (c.in-Ok.client, c.serve.new.client, c.in-Ok.ensures, direct.0))

pub returns : goal.returns
returns g c =
    let direct = c.lines_are_direct.ensures (service_of c.args.service.now) c.in-Ok.client c.serve.new.client _ (Err c.in-Err-serve.fault) c.in-Ok.ensures c.in-Err-serve.ensures in
    inl (c.in-Ok.client, c.serve.new.client, c.in-Ok.ensures, direct.0)
