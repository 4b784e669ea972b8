use Rattle.std.proofs.Common.{refl}
use Rattle.load_rounds.specs.Sessions.{state_of}
use Rattle.load_rounds.proofs.Stages.{stopped-all}
use Rattle.rounds_by_hand.proofs.Taking.{taken-with, taken-told}
use Rattle.rounds_by_hand.proofs.hand.Hand.reply.Goals as goal

pub returns-in-Ok-clause-kept : goal.returns-in-Ok-clause-kept
returns-in-Ok-clause-kept g c =
    let enough = rw (← c.self.view_is) at c.requires.enough in
    let round = rw c.in-Out.is at (rw (← c.self.view_is) at c.requires.round) in
    record {
      holds = record {
        enough = enough;
        round = (round.0, taken-with g.P.Execute.program g.P.Execute.text_of (state_of c.self.inside.session) c.in-Out.field-0.value c.in-Out.pending.items c.args.number c.args.reply c.take_reply.new.pending.items c.in-Ok.ensures.taken round.1, round.2);
        within = rw c.in-Out.is at (rw (← c.self.view_is) at c.requires.within);
      };
      plans = rw (← c.self.view_is) refl;
      limits = rw (← c.self.view_is) refl;
      session = rw (← c.self.view_is) refl;
    }

pub returns-in-Ok-clause-underway : goal.returns-in-Ok-clause-underway
returns-in-Ok-clause-underway g c =
    let round = rw c.in-Out.is at (rw (← c.self.view_is) at c.requires.round) in
    let t = c.in-Ok.ensures.taken in
    rw (← c.self.view_is, c.in-Out.is, t.was)
    (λ can begun h. (h.0, h.1, taken-told g.P.Execute.program g.P.Execute.text_of g.S.LocalSource.may_tell (state_of c.self.inside.session) c.in-Out.field-0.value c.in-Out.pending.items c.args.number c.args.reply c.take_reply.new.pending.items t round.1 can h.2))

pub returns-in-Err-NoMemory-clause-stopped : goal.returns-in-Err-NoMemory-clause-stopped
returns-in-Err-NoMemory-clause-stopped g c = λ begun h.
    let own = rw c.in-Out.is at (rw (← c.self.view_is) at h) in
    stopped-all g.P.Execute.program g.P.Execute.text_of g.P.Execute.loaders g.P.Execute.fits g.S.LocalSource.may_tell (state_of begun) (state_of c.self.inside.session) c.self.inside.plans.value.items c.in-Out.field-0.value own.0 own.1
