use Rattle.std.proofs.Common.{inl, inr}
use Rattle.std.proofs.KnownBytes.{Keeps-refl}
use Rattle.query_run.proofs.running.run_sample.Goals as goal

pub returns-in-Ok : goal.returns-in-Ok
returns-in-Ok g c = inl (c.in-Ok.world, (_, _, c.in-Ok.ensures.ok.0, c.in-Ok.ensures.ok.1), c.serve_in_turn.ensures)

pub returns-in-Err : goal.returns-in-Err
returns-in-Err g c = inr (Keeps-refl _, record { unmade = (c.in-Err.fault, c.in-Err.ensures.err, c.from.ensures); kept = Keeps-refl _ })
