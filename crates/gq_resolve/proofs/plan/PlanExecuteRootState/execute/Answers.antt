use Rattle.gq_check.specs.Plans.{plan_of}
use Rattle.gq_resolve.proofs.PlanLoads.{plan-loads}
use Rattle.gq_resolve.proofs.Evaluating.{on_ok}
use Rattle.gq_resolve.proofs.plan.PlanExecuteRootState.execute.Goals as goal

pub returns-clause-executed : goal.returns-clause-executed
returns-clause-executed c = c.poll_text.ensures.ok c.requires.fits

pub returns-clause-fits : goal.returns-clause-fits
returns-clause-fits c = on_ok c.poll_text.result (λ later grown. c.poll_text.ensures.grown later c.requires.fits grown)

pub returns-clause-within : goal.returns-clause-within
returns-clause-within c = plan-loads (plan_of c.args.self.now)
