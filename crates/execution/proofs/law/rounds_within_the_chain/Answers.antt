use Rattle.execution.specs.Rounds.{any_answer}
use Rattle.execution.proofs.RoundLaws.{rounds-chain}
use Rattle.execution.proofs.law.rounds_within_the_chain.Goals as goal

pub returns : goal.returns
returns c = λ log is. rounds-chain any_answer log.rules log.program log.start log.rounds log.end is.limited is.within is.lawful.0
