use Rattle.std.proofs.Common.{sym, arith}
use Rattle.gq_resolve.specs.Pauses.{point_of}
use Rattle.gq_resolve.proofs.Stopping.{put-onward, points-reads, back-reads}
use Rattle.gq_resolve.proofs.pausing.PausingSink.loads.Goals as goal

pub returns-in-Back : goal.returns-in-Back
returns-in-Back g c = λ v. back-reads g.S.Sink.goes g.met.S.Sink.none v c.args.count c.args.self.now c.in-Back.is

pub returns-in-Onward : goal.returns-in-Onward
returns-in-Onward g c = λ v. put-onward g.S.Sink.goes g.met.S.Sink.none v _ c.args.self.now _ c.in-Onward.is (c.loads.ensures v) c.in-Onward.is (omega arith) (sym (points-reads c.args.count (point_of c.args.self.now)))
