use Rattle.std.proofs.Common.{◌≤◌, ◌∙◌, ℕ, sym, ap, subst, arith, Some}
use Rattle.load_memory.specs.Pairs.{MemoryOf}
use Rattle.gq_check.specs.Plans.{PlanOf}
use Rattle.gq_resolve.specs.StepsLeft.{walk_left, count_left}
use Rattle.gq_resolve.specs.Suspended.{FitsCount, IsCounting, plan_on}
use Rattle.gq_resolve.specs.declared.work.WorkCount.{WorkCount}
use Rattle.gq_resolve.proofs.Nearing.{nearer-more}
use Rattle.gq_resolve.proofs.root_state.RootState.count_ahead.Goals as goal
use Rattle.gq_resolve.proofs.root_state.RootState.count_ahead.Goals.{in-Some, in-None+in_ok-root_of-in-None}

-- a count fits, and is no further from its end than before
record Begun (plan : PlanOf) (m : MemoryOf) (old : ℕ) (count : WorkCount) : Type 0 where
  pub counting : IsCounting plan m count
  pub left : walk_left plan m (Some count.walked.taken) ≤ old

pub returns : goal.returns
returns c = λ rooted fits.
    let plan : PlanOf = plan_on c.args.walk.now in
    let m : MemoryOf = c.args.walk.now.memory.now in
    let left = λ (count : WorkCount). walk_left plan m (Some count.walked.taken) in
    let kept : FitsCount plan m c.take.result = subst (FitsCount plan m) (sym c.take.ensures.value) fits.count in
    let begun : Begun plan m (count_left plan m c.args.self.now.count) c.match-take.count = elim c.match-take.branch [
      | in-Some w ↦ record {
        counting = rw w.count-is (subst (IsCounting plan m) (sym w.into_inner-count.ensures) (rw w.in-Some.is at kept));
        left = omega (arith, ap (count_left plan m) (sym c.take.ensures.value ∙ w.in-Some.is), ap left (w.count-is ∙ w.into_inner-count.ensures));
      }
      | in-None+in_ok-root_of-in-None w ↦ record {
        counting = rw w.count-is (w.new-count.ensures.counting plan m (w.in_ok-root_of-in-None.ensures rooted));
        left = omega (arith, ap (count_left plan m) (sym c.take.ensures.value ∙ w.in-None.is), ap left w.count-is, w.new-count.ensures.taken);
      }
    ] in
    let went = c.in_ok-count.ensures begun.counting in
    record {
      fits = record { stopped = fits.stopped; ahead = fits.ahead; count = subst (IsCounting plan m) (sym c.in_ok-new.ensures.ok) went.counting };
      counted = went.counted;
      nearer = λ limit. nearer-more c.args.steps _ _ _ _ _ went.nearer (omega (arith, begun.left, ap left c.in_ok-new.ensures.ok));
    }
