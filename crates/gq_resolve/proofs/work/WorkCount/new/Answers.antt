use Rattle.std.proofs.Common.{[], sym, subst, Some}
use Rattle.gq_resolve.specs.WorkLeft.{TakesWork, largest, takes-none}
use Rattle.gq_resolve.specs.Suspended.{plan_puts}
use Rattle.gq_resolve.specs.declared.work.WorkLeft.{WorkLeft}
use Rattle.gq_resolve.proofs.work.WorkCount.new.Goals as goal

pub returns-clause-counting : goal.returns-clause-counting
returns-clause-counting c = λ plan m rooted. record {
  taken = [];
  rest = plan_puts plan m;
  paused = c.new.ensures.paused plan m rooted;
  work = subst (λ (w : WorkLeft). TakesWork [] (Some largest) w.left) (sym c.new.ensures.out) (takes-none (Some largest));
}
