use Rattle.world_answers.proofs.OneAnswer as laws
use Rattle.world_answers.proofs.law.one_answer.Goals as goal

pub returns : goal.returns
returns c = laws.one_answer c.one_verdict.ensures
