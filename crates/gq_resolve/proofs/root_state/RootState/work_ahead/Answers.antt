use Rattle.std.proofs.Common.{◌≡◌, ◌≤◌, ◌∙◌, rules, sym, ap, subst, arith, Option, Some}
use Rattle.std.specs.Prelude.{Box, option_map}
use Rattle.std.specs.declared.alloc.Global.{Global}
use Rattle.load_memory.specs.Pairs.{MemoryOf}
use Rattle.gq_check.specs.Plans.{PlanOf, plan_of}
use Rattle.gq_resolve.specs.StepsLeft.{walk_left, ahead_left}
use Rattle.gq_resolve.specs.Suspended.{FitsStopped, FitsAhead, FitsCount, IsAhead}
use Rattle.gq_resolve.specs.declared.answer_ahead.AnswerAhead.{AnswerAhead}
use Rattle.gq_resolve.specs.declared.root_state.RootState.{RootState}
use Rattle.gq_resolve.specs.declared.work.WorkCount.{WorkCount}
use Rattle.gq_resolve.proofs.Ahead.{found-settled}
use Rattle.gq_resolve.proofs.Nearing.{SaysOf, nearer-walk, nearer-more}
use Rattle.gq_resolve.proofs.Polling.{searched-fits}
use Rattle.gq_resolve.proofs.root_state.RootState.work_ahead.Goals as goal
use Rattle.gq_resolve.proofs.root_state.RootState.work_ahead.Goals.{in-Some, in-None+in_ok-rooted-in-None+else-not-is_empty, then-is_whole, else-is_whole}

pub returns-then-not-is_empty : goal.returns-then-not-is_empty
returns-then-not-is_empty c = λ fits.
    let plan : PlanOf = plan_of c.args.plan.now in
    let m : MemoryOf = c.args.memory.now in
    let searched = c.in_ok-rooted-in-None.ensures (subst (FitsStopped plan m) (sym c.take-in-None.ensures.value) fits.stopped) in
    let same : c.take.new.self ≡ c.args.self.now.ahead = c.take.ensures.after ∙ sym c.in-None.is ∙ c.take.ensures.value in
    record {
      fits = record {
        stopped = searched-fits plan m c.in_ok-rooted-in-None.field-0 searched;
        ahead = subst (FitsAhead plan m) (sym c.take.ensures.after) tt;
        count = fits.count;
      };
      nearer = (omega (arith, ap (ahead_left plan m) same), omega arith);
    }

-- an answer is ahead, and is no further from its end than before
record Begun (plan : PlanOf) (m : MemoryOf) (old now : RootState) (a : AnswerAhead) : Type 0 where
  pub stopped : FitsStopped plan m now.stopped
  pub count : now.count ≡ old.count
  pub ahead : IsAhead plan m a
  pub left : walk_left plan m (Some a.walked.taken) ≤ ahead_left plan m old.ahead

pub returns : goal.returns
returns c = λ fits.
    let plan : PlanOf = plan_of c.args.plan.now in
    let m : MemoryOf = c.args.memory.now in
    let given = c.max.result in
    let kept : FitsAhead plan m c.take.result = subst (FitsAhead plan m) (sym c.take.ensures.value) fits.ahead in
    let begun : Begun plan m c.args.self.now c.match-take.self c.match-take.ahead = elim c.match-take.branch [
      | in-Some w ↦ record {
        stopped = rw w.self-is fits.stopped;
        count = ap (λ (s : RootState). s.count) w.self-is;
        ahead = rw w.ahead-is (subst (IsAhead plan m) (sym w.into_inner-ahead.ensures) (rw w.in-Some.is at kept));
        left = omega (arith, ap (ahead_left plan m) (sym c.take.ensures.value ∙ w.in-Some.is), ap (λ (a : AnswerAhead). walk_left plan m (Some a.walked.taken)) (w.ahead-is ∙ w.into_inner-ahead.ensures));
      }
      | in-None+in_ok-rooted-in-None+else-not-is_empty w ↦
          let searched = w.in_ok-rooted-in-None.ensures (subst (FitsStopped plan m) (sym w.take-in-None.ensures.value) fits.stopped) in
          record {
            stopped = rw w.self-is (subst (FitsStopped plan m) (sym w.take-in-None.ensures.after) tt);
            count = ap (λ (s : RootState). s.count) w.self-is;
            ahead = rw w.ahead-is (w.new-ahead.ensures.ahead plan m searched.goes_on.rooted (found-settled plan m w.in_ok-rooted-in-None.field-0 searched (w.is_empty.ensures.0 (search rules))));
            left = omega (arith, ap (ahead_left plan m) (sym c.take.ensures.value ∙ w.in-None.is), ap (λ (a : AnswerAhead). walk_left plan m (Some a.walked.taken)) w.ahead-is);
          }
    ] in
    let further = c.in_ok-ahead.ensures begun.ahead in
    let new : AnswerAhead = c.in_ok-ahead.ahead in
    let says : SaysOf c.args.steps new.walked c.if-is_whole.over = elim c.if-is_whole.branch [
      | then-is_whole w ↦ rw w.over-is c.steps_over-rest.ensures
      | else-is_whole w ↦ rw w.over-is (λ e. cc (w.if-is_whole.ensures.1 e))
    ] in
    record {
      fits = record {
        stopped = begun.stopped;
        ahead = subst (IsAhead plan m) (sym c.in_ok-new.ensures.ok) further.ahead;
        count = subst (FitsCount plan m) (sym begun.count) fits.count;
      };
      nearer = nearer-more c.args.steps (walk_left plan m (Some c.match-take.ahead.walked.taken)) (walk_left plan m (Some new.walked.taken)) _ _ c.if-is_whole.over
          (nearer-walk plan m c.args.steps given c.match-take.ahead.walked new.walked further.ahead.taken further.ahead.rest c.if-is_whole.over (omega (arith, c.max.ensures)) further.ahead.paused further.longer further.stopped says)
          (omega (arith, begun.left, ap (λ (a : AnswerAhead). walk_left plan m (Some a.walked.taken)) c.in_ok-new.ensures.ok, ap (λ (o : Option (Box WorkCount Global)). walk_left plan m (option_map (λ b. b.value.walked.taken) o)) begun.count));
    }
