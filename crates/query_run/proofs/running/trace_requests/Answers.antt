use Rattle.std.proofs.Common.{inl, inr, sym, ◌∙◌, ap}
use Rattle.std.proofs.KnownBytes.{Keeps-refl}
use Rattle.query_command.specs.Origins.{origin_of}
use Rattle.server_traces.specs.Tracing.{trace_device}
use Rattle.query_run.proofs.Traced.{no-other, uncreated-told}
use Rattle.query_run.proofs.running.trace_requests.Goals as goal

pub returns-in-Err-clause-run : goal.returns-in-Err-clause-run
returns-in-Err-clause-run g c =
    inr (record { told = uncreated-told c.in-Err.fault _ c.in-Err.ensures.err c.from.ensures.0; untouched = record { unasked = Keeps-refl _; kept = Keeps-refl _ } })

pub returns-in-Err-clause-placed : goal.returns-in-Err-clause-placed
returns-in-Err-clause-placed g c = inr (c.in-Err.fault, c.in-Err.ensures.err, c.from.ensures.0, c.from.ensures.1)

pub returns-clause-run : goal.returns-clause-run
returns-clause-run g c =
    inl (record {
      first = trace_device g.D.Created.Write.contents c.new.result;
      last = trace_device g.D.Created.Write.contents c.trace_service-stop.result.trace;
      served = rw c.from-2.ensures.0 c.trace_service-stop.ensures;
      kept = rw c.new.ensures.device (rw c.in-Ok.ensures.empty (rw (← c.into_inner.ensures) c.close.ensures.written));
    })

pub returns-clause-placed : goal.returns-clause-placed
returns-clause-placed g c = inl (c.from-2.ensures.1 ∙ ap origin_of (sym c.from-2.ensures.0))

pub returns-clause-others : goal.returns-clause-others
returns-clause-others g c = no-other c.args.path.now _ _ _ c.create_trace.ensures.others c.close.ensures.others
