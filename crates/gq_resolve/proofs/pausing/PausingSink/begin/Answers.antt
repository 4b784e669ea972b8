use Rattle.std.proofs.Common.{List, ℕ, false, ap}
use Rattle.gq_resolve.proofs.Stopping.{back-past, onward-past}
use Rattle.gq_resolve.proofs.pausing.PausingSink.begin.Goals as goal
use Rattle.gq_resolve.proofs.pausing.PausingSink.begin.Goals.{in-Back, in-Onward+in_ok-begin-in-Onward}

pub returns : goal.returns
returns g c = λ v.
    elim c.match-self.branch [
      | in-Back w ↦ back-past g.S.Sink.goes g.met.S.Sink.none v _ c.args.self.now c.match-self.self _ c.come_past.new.self w.in-Back.is w.self-is c.come_past.ensures.others c.come_past.ensures.turned (ap (λ (path : List ℕ). record { path = path; entered = false }) c.in_ok-push.ensures.items)
      | in-Onward+in_ok-begin-in-Onward w ↦ onward-past g.S.Sink.goes g.met.S.Sink.none v _ c.args.self.now c.match-self.self _ w.begin.new.self c.come_past.new.self w.in-Onward.is w.self-is (w.in_ok-begin-in-Onward.ensures v) c.come_past.ensures.others c.come_past.ensures.turned (ap (λ (path : List ℕ). record { path = path; entered = false }) c.in_ok-push.ensures.items)
    ]
