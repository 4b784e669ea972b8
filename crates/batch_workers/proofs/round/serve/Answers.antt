use Rattle.batch_workers.proofs.round.serve.Goals as goal

pub returns-in-Ok : goal.returns-in-Ok
returns-in-Ok g c = (c.in-Ok.ensures.shown.0, rw c.in-Ok.ensures.shown.1 c.in_ok-reply.ensures)
