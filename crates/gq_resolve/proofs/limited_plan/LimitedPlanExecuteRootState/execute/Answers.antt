use Rattle.std.proofs.Common.{◌≡◌, ℕ, length, ap, sym, subst, ◌∙◌, Option, IfOk}
use Rattle.execution.specs.Executes.{CanExecute, IsExecuted}
use Rattle.gq_check.specs.Plans.{PlanOf, plan_of}
use Rattle.plan_program.specs.PlanPrograms.{plan_program}
use Rattle.gq_resolve.proofs.PlanLoads.{plan-loads}
use Rattle.gq_resolve.specs.PreparedPlans.{LimitedPlanOf}
use Rattle.gq_resolve.specs.Suspended.{FitsMemory}
use Rattle.gq_resolve.specs.Within.{text_within}
use Rattle.gq_resolve.proofs.Evaluating.{on_ok}
use Rattle.gq_resolve.proofs.limited_plan.LimitedPlanExecuteRootState.execute.Goals as goal

pub returns-in_err-begin-clause-within : goal.returns-in_err-begin-clause-within
returns-in_err-begin-clause-within c = plan-loads (plan_of c.args.self.now.plan)

pub poll_text-requires : goal.poll_text-requires
poll_text-requires c =
    let own : plan_of c.plan-plan.result.now ≡ plan_of c.args.self.now.plan = ap plan_of (c.plan-plan.ensures ∙ c.deref-2.ensures) ∙ ap (λ (l : LimitedPlanOf). plan_of l.plan) c.self.view_is in
    subst (λ (plan : PlanOf). CanExecute (length plan.bindings.loaders) c.args.memory.now c.args.wants.now) (sym own) c.requires.can

pub returns-clause-executed : goal.returns-clause-executed
returns-clause-executed c =
    let own : plan_of c.plan-plan.result.now ≡ plan_of c.args.self.now.plan = ap plan_of (c.plan-plan.ensures ∙ c.deref-2.ensures) ∙ ap (λ (l : LimitedPlanOf). plan_of l.plan) c.self.view_is in
    let first : plan_of c.deref.result.now ≡ plan_of c.args.self.now.plan = ap plan_of c.deref.ensures ∙ ap (λ (l : LimitedPlanOf). plan_of l.plan) c.self.view_is in
    let out = c.poll_text.result in
    let begun : FitsMemory (plan_of c.args.self.now.plan) c.begin.new.progress c.args.memory.now = subst (λ (plan : PlanOf). FitsMemory plan c.begin.new.progress c.args.memory.now) first (c.in_ok-begin.ensures.fits c.args.memory.now (subst (λ (plan : PlanOf). FitsMemory plan c.args.progress.now c.args.memory.now) (sym first) c.requires.fits)) in
    let fits = subst (λ (plan : PlanOf). FitsMemory plan c.begin.new.progress c.args.memory.now) (sym own) begun in
    subst (λ (most : Option ℕ). IfOk out (IsExecuted (text_within most) c.args.wants.now c.poll_text.new.wants (plan_program (plan_of c.args.self.now.plan)) c.args.memory.now)) (ap (λ (l : LimitedPlanOf). l.most) c.self.view_is)
    (subst (λ (plan : PlanOf). IfOk out (IsExecuted (text_within c.self.inside.most) c.args.wants.now c.poll_text.new.wants (plan_program plan) c.args.memory.now)) own (c.poll_text.ensures.ok fits))

pub returns-clause-fits : goal.returns-clause-fits
returns-clause-fits c =
    let own : plan_of c.plan-plan.result.now ≡ plan_of c.args.self.now.plan = ap plan_of (c.plan-plan.ensures ∙ c.deref-2.ensures) ∙ ap (λ (l : LimitedPlanOf). plan_of l.plan) c.self.view_is in
    let first : plan_of c.deref.result.now ≡ plan_of c.args.self.now.plan = ap plan_of c.deref.ensures ∙ ap (λ (l : LimitedPlanOf). plan_of l.plan) c.self.view_is in
    let begun : FitsMemory (plan_of c.args.self.now.plan) c.begin.new.progress c.args.memory.now = subst (λ (plan : PlanOf). FitsMemory plan c.begin.new.progress c.args.memory.now) first (c.in_ok-begin.ensures.fits c.args.memory.now (subst (λ (plan : PlanOf). FitsMemory plan c.args.progress.now c.args.memory.now) (sym first) c.requires.fits)) in
    let fits = subst (λ (plan : PlanOf). FitsMemory plan c.begin.new.progress c.args.memory.now) (sym own) begun in
    on_ok c.poll_text.result (λ later grown. subst (λ (plan : PlanOf). FitsMemory plan c.poll_text.new.self later) own (c.poll_text.ensures.grown later fits grown))

pub returns-clause-within : goal.returns-clause-within
returns-clause-within c = plan-loads (plan_of c.args.self.now.plan)
