use Rattle.gq_check.proofs.plan.Plan.operation.Goals as goal

pub returns-clause-prepared : goal.returns-clause-prepared
returns-clause-prepared c = rw (← c.self.view_is) c.self.invariant
