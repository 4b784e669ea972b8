use Rattle.std.proofs.Common.{List, ℕ, true, ap, arith}
use Rattle.gq_resolve.proofs.Stopping.{back-entered, onward-entered}
use Rattle.gq_resolve.proofs.pausing.PausingSink.field.Goals as goal
use Rattle.gq_resolve.proofs.pausing.PausingSink.field.Goals.{in-Back, in-Onward+in_ok-field-in-Onward}

pub returns : goal.returns
returns g c = λ v.
    elim c.match-self.branch [
      | in-Back w ↦ back-entered g.S.Sink.goes g.met.S.Sink.none v _ c.args.self.now c.match-self.self c.come_to.new.self w.in-Back.is w.self-is c.come_to.ensures.others (ap (λ (path : List ℕ). record { path = path; entered = true }) c.in_ok-come_to.ensures.path)
      | in-Onward+in_ok-field-in-Onward w ↦ onward-entered g.S.Sink.goes g.met.S.Sink.none v _ c.args.self.now c.match-self.self c.come_to.new.self w.field.new.self _ w.in-Onward.is w.self-is (w.in_ok-field-in-Onward.ensures v) (omega (arith, w.saturating_sub-self.ensures)) c.come_to.ensures.others (ap (λ (path : List ℕ). record { path = path; entered = true }) c.in_ok-come_to.ensures.path)
    ]
