use Rattle.rounds_by_hand.specs.Hands.{far_of}
use Rattle.rounds_by_hand.proofs.Far.{gone-stops}
use Rattle.rounds_by_hand.proofs.hand.Hand.into_session.Goals as goal

pub returns-clause-stopped : goal.returns-clause-stopped
returns-clause-stopped g c = λ begun h.
    let own = rw (← c.self.view_is) at h in
    rw (← c.self.view_is) (gone-stops g.P.Execute.program g.P.Execute.text_of g.S.LocalSource.may_tell g.P.Execute.loaders g.P.Execute.fits begun c.self.inside.session c.self.inside.plans.value.items c.self.inside.limits (far_of c.self.inside.far) own)
