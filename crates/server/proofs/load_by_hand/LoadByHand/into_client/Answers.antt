use Rattle.server.proofs.LoadsByHand.{load-given-up}
use Rattle.server.proofs.load_by_hand.LoadByHand.into_client.Goals as goal

pub invariant_of-result : goal.invariant_of-result
invariant_of-result g c = rw c.into_session.ensures.session c.self.invariant.has

pub returns-clause-stopped : goal.returns-clause-stopped
returns-clause-stopped g c =
    let e = c.into_session.ensures in
    rw (← c.self.view_is) (load-given-up c.self.inside.keys c.self.inside.queries c.self.inside.max_answer c.self.inside.limits g.S.LocalSource.may_tell c.self.inside.hand c.into_session.result c.self.invariant e.session e.stopped)
