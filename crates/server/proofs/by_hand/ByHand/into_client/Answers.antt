use Rattle.std.proofs.Common.{refl}
use Rattle.server.specs.Hands.{planned_of}
use Rattle.server.proofs.Handing.{gives-up, is-held}
use Rattle.server.proofs.by_hand.ByHand.into_client.Goals as goal

pub returns-clause-stopped : goal.returns-clause-stopped
returns-clause-stopped g c =
    let hand = c.self.inside.hand in
    let planned = planned_of c.self.inside.form c.self.inside.loaders hand.plans in
    let is = is-held c.self.inside.queries c.self.inside.max_answer c.self.inside.limits planned hand refl c.self.invariant.limits in
    rw (← c.self.view_is) (gives-up c.self.inside.queries c.self.inside.max_answer c.self.inside.limits planned g.S.LocalSource.may_tell hand c.into_session.result is c.self.invariant.refused c.into_session.ensures.session c.into_session.ensures.stopped)
