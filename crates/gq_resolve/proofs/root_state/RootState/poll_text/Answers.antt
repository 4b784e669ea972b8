use Rattle.std.proofs.Common.{◌≡◌, refl, rules, ap, sym, subst, ◌∙◌, None}
use Rattle.load_memory.specs.Pairs.{MemoryOf}
use Rattle.gq_check.specs.Plans.{PlanOf, plan_of}
use Rattle.plan_program.specs.PlanPrograms.{plan_program}
use Rattle.plan_walk.specs.Reading.{lookup}
use Rattle.gq_resolve.specs.Evaluated.{AddsPart}
use Rattle.gq_resolve.specs.Suspended.{FitsMemory, FitsStopped, FitsAhead, FitsCount, Advanced, lacking}
use Rattle.gq_resolve.specs.declared.root_state.RootState.{RootState}
use Rattle.gq_resolve.proofs.Evaluating.{on_err}
use Rattle.gq_resolve.proofs.Polling.{answer-ready, limit-given, front-added, part-wanted, still-fits, stopped-more}
use Rattle.gq_resolve.proofs.Ahead.{found-settled, still-ahead}
use Rattle.gq_resolve.proofs.root_state.RootState.poll_text.Goals as goal
use Rattle.gq_resolve.proofs.root_state.RootState.poll_text.Goals.{After-is_empty, then-is_some+in_ok-result+in_default, else-is_some}

-- what is kept beside the answer ahead stays
same-stopped : (c : After-is_empty) → c.if-is_some.self.stopped ≡ c.args.self.now.stopped
same-stopped c = elim c.if-is_some.branch [
  | then-is_some+in_ok-result+in_default w ↦ ap (λ (s : RootState). s.stopped) (w.self-is ∙ w.finish_ahead.ensures.kept)
  | else-is_some w ↦ ap (λ (s : RootState). s.stopped) w.self-is
]

-- the count was let go
same-count : (c : After-is_empty) → c.if-is_some.self.count ≡ None
same-count c = elim c.if-is_some.branch [
  | then-is_some+in_ok-result+in_default w ↦ ap (λ (s : RootState). s.count) (w.self-is ∙ w.finish_ahead.ensures.kept)
  | else-is_some w ↦ ap (λ (s : RootState). s.count) w.self-is
]

-- the walk came as far as it could
far : (c : After-is_empty) → FitsMemory (plan_of c.args.plan.now) c.args.self.now c.args.memory.now → Advanced (plan_of c.args.plan.now) c.args.memory.now c.unwrap_or.result c.in_ok-walked.walked
far c fits = c.in_ok-walked.ensures (subst (FitsStopped (plan_of c.args.plan.now) c.args.memory.now) (sym (c.take.ensures.value ∙ same-stopped c)) fits.stopped)

pub returns-then-is_empty-clause-ok : goal.returns-then-is_empty-clause-ok
returns-then-is_empty-clause-ok c = λ fits.
    let plan : PlanOf = plan_of c.args.plan.now in
    let m : MemoryOf = c.args.memory.now in
    let came = far (goal.at.returns-then-is_empty-clause-ok c).After-is_empty fits in
    let none = c.if-is_empty.ensures.0 refl in
    let limit = c.unwrap_or.result in
    let text = c.in_ok-text.ensures plan m (record { limit = limit; given = limit-given c.args.most limit _ c.unwrap_or.ensures; answers = c.in_ok-finish.ensures limit (plan_program plan) (lookup m) (came.written none) }) in
    answer-ready plan m c.args.wants.now c.args.most (record { text = c.in_ok-text.text; loads = c.in_ok-walked.walked.out.loads }) c.requires (found-settled plan m c.in_ok-walked.walked came.searched none) text (search rules) (came.loads none)

pub returns-in_err-waiting-clause-err : goal.returns-in_err-waiting-clause-err
returns-in_err-waiting-clause-err c = λ fits.
    let plan : PlanOf = plan_of c.args.plan.now in
    let m : MemoryOf = c.args.memory.now in
    on_err {P = AddsPart c.args.wants.now c.add_wants.new.wants (lacking plan m)} _
    (part-wanted plan m c.args.wants.now c.in_ok-walked.walked c.requires (far (goal.at.returns-in_err-waiting-clause-err c).After-is_empty fits) c.add_wants.new.wants c.in_err-waiting.ensures.part)

pub returns-clause-ok : goal.returns-clause-ok
returns-clause-ok c = λ fits.
    front-added (plan_of c.args.plan.now) c.args.memory.now c.args.wants.now c.in_ok-walked.walked c.requires (far (goal.at.returns-clause-ok c).After-is_empty fits) c.add_wants.new.wants
    (λ none. cc (c.if-is_empty.ensures.1 none)) c.in_ok-waiting.ensures.ok

-- and so does the answer ahead, if it isn't gone
fits-ahead : (c : After-is_empty) (n : MemoryOf) → FitsAhead (plan_of c.args.plan.now) n c.args.self.now.ahead → FitsAhead (plan_of c.args.plan.now) n c.if-is_some.self.ahead
fits-ahead c n fits = elim c.if-is_some.branch [
  | then-is_some+in_ok-result+in_default w ↦ subst (λ (s : RootState). FitsAhead (plan_of c.args.plan.now) n s.ahead) (sym (w.self-is ∙ w.finish_ahead.ensures.kept)) tt
  | else-is_some w ↦ subst (λ (s : RootState). FitsAhead (plan_of c.args.plan.now) n s.ahead) (sym w.self-is) fits
]

pub returns-clause-grown : goal.returns-clause-grown
returns-clause-grown c = λ n fits grown.
    let plan : PlanOf = plan_of c.args.plan.now in
    let m : MemoryOf = c.args.memory.now in
    let now = (goal.at.returns-clause-grown c).After-is_empty in
    record {
      stopped = still-fits plan m n c.in_ok-walked.walked c.in_ok-waiting.waiting (far now fits) c.in_ok-waiting.ensures.kept grown;
      ahead = fits-ahead now n (still-ahead plan m n c.args.self.now.ahead grown fits.ahead);
      count = subst (FitsCount plan n) (sym (same-count now)) tt;
    }

pub returns-in-Some-clause-grown : goal.returns-in-Some-clause-grown
returns-in-Some-clause-grown c = λ n fits grown.
    let plan : PlanOf = plan_of c.args.plan.now in
    let m : MemoryOf = c.args.memory.now in
    rw c.finish_ahead.ensures.kept (record { stopped = stopped-more plan m n c.args.self.now.stopped grown fits.stopped; ahead = tt; count = tt })

pub returns-in_err-result-clause-grown : goal.returns-in_err-result-clause-grown
returns-in_err-result-clause-grown c = λ n fits grown.
    let plan : PlanOf = plan_of c.args.plan.now in
    let m : MemoryOf = c.args.memory.now in
    rw c.finish_ahead.ensures.kept (record { stopped = stopped-more plan m n c.args.self.now.stopped grown fits.stopped; ahead = tt; count = tt })
