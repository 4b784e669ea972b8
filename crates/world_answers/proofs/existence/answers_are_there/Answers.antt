use Rattle.world_answers.proofs.Logs.{direct-some, log-there}
use Rattle.world_answers.proofs.existence.answers_are_there.Goals as goal

pub returns-clause-direct : goal.returns-clause-direct
returns-clause-direct c = λ p item. direct-some item p

pub returns-clause-log : goal.returns-clause-log
returns-clause-log c = λ item rules p M by. log-there item rules p by.alike M by.held by.limited by.loaders
