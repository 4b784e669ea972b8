use Rattle.std.proofs.Common.{refl}
use Rattle.gq_resolve.proofs.Stopping.{back-past, onward-past}
use Rattle.gq_resolve.proofs.pausing.PausingSink.wait.Goals as goal
use Rattle.gq_resolve.proofs.pausing.PausingSink.wait.Goals.{in-Back, in-Onward+in_ok-wait-in-Onward}

pub returns : goal.returns
returns g c = λ v lt.
    elim c.match-self.branch [
      | in-Back w ↦ back-past g.S.Sink.goes g.met.S.Sink.none v _ c.args.self.now c.match-self.self _ c.come_past.new.self w.in-Back.is w.self-is c.come_past.ensures.others c.come_past.ensures.turned refl
      | in-Onward+in_ok-wait-in-Onward w ↦ onward-past g.S.Sink.goes g.met.S.Sink.none v _ c.args.self.now c.match-self.self _ w.wait.new.self c.come_past.new.self w.in-Onward.is w.self-is (w.in_ok-wait-in-Onward.ensures v lt) c.come_past.ensures.others c.come_past.ensures.turned refl
    ]
