use Rattle.plan_laws.proofs.OverOne.{server-one}
use Rattle.plan_laws.proofs.law.plans_of_a_server_are_over_one.Goals as goal

pub returns : goal.returns
returns c = λ s plan made of. server-one s plan made of
