use Rattle.plan_laws.proofs.law.answers_of_plans.Goals as goal

pub returns : goal.returns
returns g c = λ old new text rounds h. record { valid = c.operation.ensures.prepared; headline = h }
