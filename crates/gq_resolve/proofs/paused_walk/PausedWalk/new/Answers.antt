use Rattle.std.proofs.Common.{refl, inr, ap, arith}
use Rattle.gq_resolve.specs.Points.{PointOf}
use Rattle.gq_resolve.proofs.paused_walk.PausedWalk.new.Goals as goal

pub returns-clause-paused : goal.returns-clause-paused
returns-clause-paused g c = λ plan m rooted. record {
  rooted = rooted;
  all = refl;
  point = c.new.ensures.point;
  few = omega arith;
  stopped = inr (c.new.ensures.course, inr (ap (λ (p : PointOf). p.entered) c.new.ensures.point, refl));
}
