use Rattle.std.proofs.Common.{◌≡◌, ◌∙◌, ℕ, Option, ap, sym, subst}
use Rattle.std.specs.Prelude.{IfOk}
use Rattle.load_memory.specs.Pairs.{MemoryOf}
use Rattle.execution.specs.Executes.{ComesNearer}
use Rattle.gq_check.specs.Plans.{PlanOf, plan_of}
use Rattle.gq_resolve.specs.PreparedPlans.{LimitedPlanOf}
use Rattle.gq_resolve.specs.StepsLeft.{steps_left, WorksAhead}
use Rattle.gq_resolve.specs.Suspended.{FitsMemory}
use Rattle.gq_resolve.specs.declared.root_state.RootState.{RootState}
use Rattle.gq_resolve.proofs.Nearing.{wrote-parts}
use Rattle.gq_resolve.proofs.limited_plan.LimitedPlanExecuteRootState.work_ahead.Goals as goal

pub returns : goal.returns
returns c =
    let plan : PlanOf = plan_of c.args.self.now.plan in
    let m : MemoryOf = c.args.memory.now in
    let most : Option ℕ = c.args.self.now.most in
    let begun : RootState = c.begin.new.progress in
    let new : RootState = c.work_ahead.new.self in
    let first : plan_of c.deref.result.now ≡ plan = ap plan_of c.deref.ensures ∙ ap (λ (l : LimitedPlanOf). plan_of l.plan) c.self.view_is in
    let own : plan_of c.plan.result.now ≡ plan = ap plan_of (c.plan.ensures ∙ c.deref-2.ensures) ∙ ap (λ (l : LimitedPlanOf). plan_of l.plan) c.self.view_is in
    let fits : FitsMemory plan begun m = subst (λ (p : PlanOf). FitsMemory p begun m) first (c.in_ok-begin.ensures.fits m (subst (λ (p : PlanOf). FitsMemory p c.args.progress.now m) (sym first) c.requires.fits)) in
    let did : IfOk c.work_ahead.result (WorksAhead plan m most c.args.steps begun new) =
    subst (λ (n : Option ℕ). IfOk c.work_ahead.result (WorksAhead plan m n c.args.steps begun new)) (ap (λ (l : LimitedPlanOf). l.most) c.self.view_is)
    (subst (λ (p : PlanOf). IfOk c.work_ahead.result (WorksAhead p m c.self.inside.most c.args.steps begun new)) own c.work_ahead.ensures) in
    let parts = wrote-parts plan m most c.args.steps begun new c.work_ahead.result fits did in
    record {
      fits = parts.0;
      nearer = subst (λ (n : ℕ). IfOk c.work_ahead.result (ComesNearer c.args.steps n (steps_left plan most new m))) (ap (λ (s : RootState). steps_left plan most s m) c.begin.ensures.others) parts.1;
    }
