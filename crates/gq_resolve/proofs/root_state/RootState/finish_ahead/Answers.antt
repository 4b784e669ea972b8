use Rattle.std.proofs.Common.{false, rules, sym, ap, ◌∙◌, subst, arith}
use Rattle.load_memory.specs.Pairs.{MemoryOf}
use Rattle.execution.specs.Reads.{counted}
use Rattle.gq_check.specs.Plans.{PlanOf}
use Rattle.plan_program.specs.PlanPrograms.{plan_program}
use Rattle.plan_walk.specs.Reading.{lookup}
use Rattle.gq_resolve.specs.Suspended.{FitsAhead, IsAhead, IsWhole, plan_on}
use Rattle.gq_resolve.proofs.Polling.{answer-ready}
use Rattle.gq_resolve.proofs.Putting.{puts-read}
use Rattle.gq_resolve.proofs.root_state.RootState.finish_ahead.Goals as goal

pub returns-clause-result : goal.returns-clause-result
returns-clause-result c = λ fits wants can.
    let plan : PlanOf = plan_on c.args.walk.now in
    let m : MemoryOf = c.args.walk.now.memory.now in
    let kept : FitsAhead plan m c.take.result = subst (FitsAhead plan m) (sym c.take.ensures.value) fits.ahead in
    let own : IsAhead plan m c.in-Some.ahead.value = rw c.in-Some.is at kept in
    let whole : IsWhole plan m c.args.most c.in-Some-2.whole = rw c.in-Some-2.is at (c.in_ok-whole.ensures (subst (IsAhead plan m) (sym c.into_inner.ensures) own)) in
    let text = c.in_ok-text.ensures plan m (record { limit = whole.limit; given = whole.given; answers = c.in_ok-finish.ensures whole.limit (plan_program plan) (lookup m) whole.wrote.text }) in
    answer-ready plan m wants c.args.most (record { text = c.in_ok-text.text; loads = c.in-Some-2.whole.loads }) can whole.settled text (search rules) (whole.wrote.loads ∙ ap counted (omega (arith, puts-read false (plan_program plan) (lookup m))))
