use Rattle.std.proofs.Common.{◌<◌, ℕ, refl, subst, arith, Some, None}
use Rattle.std.specs.List.{sum_by}
use Rattle.load_memory.specs.Pairs.{MemoryOf}
use Rattle.execution.specs.Work.{IsLeft}
use Rattle.gq_check.specs.Plans.{PlanOf}
use Rattle.gq_resolve.specs.Suspended.{plan_on}
use Rattle.gq_resolve.specs.WorkLeft.{put_work}
use Rattle.gq_resolve.specs.declared.work.WorkCount.{WorkCount}
use Rattle.gq_resolve.proofs.Working.{counted-part, counted-all, counted-on}
use Rattle.gq_resolve.proofs.work.WorkCount.go_on.Goals as goal

pub returns-in_default : goal.returns-in_default
returns-in_default c = λ h.
    let work : ℕ = sum_by put_work h.taken in
    let over : c.args.most < work = subst (IsLeft c.args.most work) c.in_default.is (c.left_of.ensures work h.work) in
    record {
      counting = h;
      counted = omega (arith, over, counted-part (plan_on c.args.walk.now) c.args.walk.now.memory.now c.requires c.args.self h);
      nearer = (omega arith, omega arith);
    }

pub returns-in-None : goal.returns-in-None
returns-in-None c = λ h.
    let plan : PlanOf = plan_on c.args.walk.now in
    let m : MemoryOf = c.args.walk.now.memory.now in
    let new : WorkCount = record { walked = c.in_ok-walked.walked } in
    counted-on plan m c.args.most c.args.steps c.min-allowed.result c.args.self new h (Some (record { left = None; steps = c.steps_over-steps.result })) (omega (arith, c.max.ensures, c.saturating_add.ensures, c.min-allowed.ensures))
    (c.in_ok-walked.ensures h.taken h.rest h.paused tt) c.steps_over-steps.ensures
    (λ k.
    let work : ℕ = sum_by put_work k.taken in
    let over : c.args.most < work = subst (IsLeft c.args.most work) c.in-None.is (c.left_of-2.ensures work k.work) in
    omega (arith, over, counted-part plan m c.requires new k))

pub returns-in-Some-left_of : goal.returns-in-Some-left_of
returns-in-Some-left_of c = λ h.
    let plan : PlanOf = plan_on c.args.walk.now in
    let m : MemoryOf = c.args.walk.now.memory.now in
    let new : WorkCount = record { walked = c.in_ok-walked.walked } in
    counted-on plan m c.args.most c.args.steps c.min-allowed.result c.args.self new h (Some (record { left = Some c.in-Some-left_of.left; steps = c.steps_over-steps.result })) (omega (arith, c.max.ensures, c.saturating_add.ensures, c.min-allowed.ensures))
    (c.in_ok-walked.ensures h.taken h.rest h.paused tt) c.steps_over-steps.ensures
    (λ k.
    let work : ℕ = sum_by put_work k.taken in
    subst (λ (n : ℕ). IsLeft c.args.most n (Some c.in-Some-left_of.left)) (counted-all plan m c.requires new k (c.if-is_whole.ensures.0 refl))
    (subst (IsLeft c.args.most work) c.in-Some-left_of.is (c.left_of-2.ensures work k.work)))

pub returns-in-Some-2 : goal.returns-in-Some-2
returns-in-Some-2 c = λ h.
    counted-on (plan_on c.args.walk.now) c.args.walk.now.memory.now c.args.most c.args.steps c.min-allowed.result c.args.self (record { walked = c.in_ok-walked.walked }) h None
    (omega (arith, c.max.ensures, c.saturating_add.ensures, c.min-allowed.ensures)) (c.in_ok-walked.ensures h.taken h.rest h.paused tt) (λ e. cc (c.if-is_whole.ensures.1 e)) (λ k. tt)
