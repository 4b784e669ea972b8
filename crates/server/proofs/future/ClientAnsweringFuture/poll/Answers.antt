use Rattle.std.proofs.Common.{◌∙◌, Ok, Err, sym, subst}
use Rattle.server.specs.Hands.{Gives}
use Rattle.server.proofs.Handing.{polled-again, polled-answered, polled-failed}
use Rattle.server.proofs.future.ClientAnsweringFuture.poll.Goals as goal

pub returns-in-None-clause-same : goal.returns-in-None-clause-same
returns-in-None-clause-same g c =
    let e = c.ask_and_advance.ensures in
    rw c.yield_now.ensures.pending (λ given gives.
    subst (λ b. Gives g.S.LocalSource.may_tell b given) (sym c.in-Some.is) (polled-again g.S.LocalSource.may_tell c.in-Some.by_hand c.ask_and_advance.new.self e.underway e.planned e.same given gives))

pub returns-in-Err-clause-value : goal.returns-in-Err-clause-value
returns-in-Err-clause-value g c =
    let e = c.ask_and_advance.ensures in
    subst (λ b. Gives g.S.LocalSource.may_tell b (c.take_client-in-Err.result, Err c.in-Err.fault)) (sym c.in-Some.is)
    (polled-failed g.S.LocalSource.may_tell c.in-Some.by_hand c.ask_and_advance.new.self e.underway e.planned e.same c.take_client-in-Err.result c.in-Err.fault c.take_client-in-Err.ensures.client
    c.take_client-in-Err.ensures.stopped)

pub returns-in-Some-into_done-clause-value : goal.returns-in-Some-into_done-clause-value
returns-in-Some-into_done-clause-value g c =
    let e = c.ask_and_advance.ensures in
    subst (λ b. Gives g.S.LocalSource.may_tell b (c.take_client.result, Ok c.in-Some-into_done.answer)) (sym c.in-Some.is)
    (polled-answered g.S.LocalSource.may_tell c.in-Some.by_hand c.ask_and_advance.new.self e.underway e.planned e.same c.take_client.result c.in-Ok.progress c.in-Some-into_done.answer
    c.take_client.ensures.client (sym c.into_done.ensures ∙ c.in-Some-into_done.is) c.in-Ok.ensures.answered)
