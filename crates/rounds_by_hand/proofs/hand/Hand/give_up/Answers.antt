use Rattle.load_rounds.specs.Sessions.{state_of}
use Rattle.load_rounds.proofs.Stages.{stopped-all}
use Rattle.rounds_by_hand.proofs.hand.Hand.give_up.Goals as goal

pub returns-in-Ready-clause-underway : goal.returns-in-Ready-clause-underway
returns-in-Ready-clause-underway g c = λ begun h.
    let own = rw c.in-Ready.is at (rw (← c.self.view_is) at h) in
    stopped-all g.P.Execute.program g.P.Execute.text_of g.P.Execute.loaders g.P.Execute.fits g.S.LocalSource.may_tell (state_of begun) (state_of c.self.inside.session) c.self.inside.plans.value.items c.in-Ready.field-0.value own.0 own.1

pub returns-in-Out-clause-underway : goal.returns-in-Out-clause-underway
returns-in-Out-clause-underway g c = λ begun h.
    let own = rw c.in-Out.is at (rw (← c.self.view_is) at h) in
    stopped-all g.P.Execute.program g.P.Execute.text_of g.P.Execute.loaders g.P.Execute.fits g.S.LocalSource.may_tell (state_of begun) (state_of c.self.inside.session) c.self.inside.plans.value.items c.in-Out.field-0.value own.0 own.1
