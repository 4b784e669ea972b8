use Rattle.batch_workers.proofs.Rounds.{answered, answers_on}
use Rattle.batch_workers.proofs.Steps.{begins}
use Rattle.batch_workers.proofs.round.run_round.Goals as goal

pub ruled-requires-clause-rule : goal.ruled-requires-clause-rule
ruled-requires-clause-rule g c = begins

pub returns : goal.returns
returns g c =
    let most = rw c.in_ok-most.was at c.share.ensures.worked in
    let whole = answered _ _ _ _ _ _ _ _ _ _ c.put_all.ensures.1 most c.work-last.ensures.worked c.work-last.ensures.whole c.join_receipts.ensures.items c.join_receipts.ensures.both in
    record { answered = whole; shelved = answers_on _ _ _ _ _ whole }
