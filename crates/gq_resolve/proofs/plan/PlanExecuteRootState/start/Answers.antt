use Rattle.gq_resolve.proofs.plan.PlanExecuteRootState.start.Goals as goal

pub returns : goal.returns
returns c = c.new.ensures
