use Rattle.world_answers.proofs.Shared.{plan-answered}
use Rattle.world_answers.proofs.existence.plans_are_answered.Goals as goal

pub returns : goal.returns
returns c = λ s plan has bound valid. plan-answered s plan has bound valid
