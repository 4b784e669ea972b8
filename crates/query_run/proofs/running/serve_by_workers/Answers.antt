use Rattle.std.proofs.Common.{Ok, Err, inl}
use Rattle.world_answers.specs.Services.{service_of}
use Rattle.query_run.proofs.running.serve_by_workers.Goals as goal

pub returns-in-Ok-serve_with : goal.returns-in-Ok-serve_with
returns-in-Ok-serve_with g c =
    let direct = c.lines_are_direct.ensures (service_of c.args.service.now) c.in-Ok.client c.serve_with.new.client _ (Ok c.in-Ok-serve_with.field-0) c.in-Ok.ensures c.in-Ok-serve_with.ensures in
    (c.in-Ok-serve_with.field-0, (c.in-Ok.client, c.serve_with.new.client, c.in-Ok.ensures, direct.0))

pub returns : goal.returns
returns g c =
    let direct = c.lines_are_direct.ensures (service_of c.args.service.now) c.in-Ok.client c.serve_with.new.client _ (Err c.in-Err-serve_with.fault) c.in-Ok.ensures c.in-Err-serve_with.ensures in
    inl (c.in-Ok.client, c.serve_with.new.client, c.in-Ok.ensures, direct.0)
