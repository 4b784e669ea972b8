use Rattle.std.proofs.Common.{inl, inr, refl}
use Rattle.std.proofs.KnownBytes.{Keeps-refl}
use Rattle.world_answers.specs.Services.{service_of}
use Rattle.query_run.proofs.tracing.trace_service.Goals as goal

pub returns-in-Err : goal.returns-in-Err
returns-in-Err g c = inr (refl, record { unasked = Keeps-refl _; kept = Keeps-refl _ }, refl)

pub returns : goal.returns
returns g c =
    let served = c.trace_lines-stop.ensures (service_of c.args.service.now) (rw c.new-traced.ensures.client c.in-Ok.ensures) in
    inl (c.in-Ok.client, c.trace_lines-stop.new.traced.client, rw c.into_parts-client.ensures.trace (rw c.new-traced.ensures.client at (rw c.new-traced.ensures.trace at served)))
