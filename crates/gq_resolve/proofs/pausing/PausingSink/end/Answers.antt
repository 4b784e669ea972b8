use Rattle.std.proofs.Common.{◌≡◌, ◌-◌, length, take, arith, List, ℕ, false, ap, ◌∙◌}
use Rattle.gq_resolve.proofs.Stopping.{back-past, onward-past}
use Rattle.gq_resolve.proofs.pausing.PausingSink.end.Goals as goal
use Rattle.gq_resolve.proofs.pausing.PausingSink.end.Goals.{in-Back, in-Onward+in_ok-end-in-Onward}

pub returns : goal.returns
returns g c = λ v.
    let count : c.saturating_sub.result ≡ length c.match-self.self.path.items - 1 = omega (arith, c.saturating_sub.ensures, c.len.ensures) in
    let shorter : c.truncate.new.self.items ≡ take (length c.match-self.self.path.items - 1) c.match-self.self.path.items = (c.truncate.ensures.items ∙ ap (λ (n : ℕ). take n c.match-self.self.path.items) count) in
    elim c.match-self.branch [
      | in-Back w ↦ back-past g.S.Sink.goes g.met.S.Sink.none v _ c.args.self.now c.match-self.self _ c.come_past.new.self w.in-Back.is w.self-is c.come_past.ensures.others c.come_past.ensures.turned (ap (λ (path : List ℕ). record { path = path; entered = false }) shorter)
      | in-Onward+in_ok-end-in-Onward w ↦ onward-past g.S.Sink.goes g.met.S.Sink.none v _ c.args.self.now c.match-self.self _ w.end.new.self c.come_past.new.self w.in-Onward.is w.self-is (w.in_ok-end-in-Onward.ensures v) c.come_past.ensures.others c.come_past.ensures.turned (ap (λ (path : List ℕ). record { path = path; entered = false }) shorter)
    ]
