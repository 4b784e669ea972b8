use Rattle.execution.specs.Rounds.{any_answer}
use Rattle.execution.proofs.RoundLaws.{memories, length-memories, rounds-sparing}
use Rattle.execution.proofs.FewestLaws.{lawful-run}
use Rattle.execution.proofs.law.no_sparing_run_is_shorter.Goals as goal

pub returns-clause-attained : goal.returns-clause-attained
returns-clause-attained c = λ log positive is. (
  memories any_answer log.rules log.start log.rounds,
  lawful-run any_answer log.rules log.program positive log.start log.rounds log.end is.0 is.1,
  length-memories any_answer log.rules log.start log.rounds,
)

pub returns-clause-fewest : goal.returns-clause-fewest
returns-clause-fewest c = λ log steps is run. rounds-sparing any_answer log.rules log.program log.start log.rounds log.end steps is.limited is.within is.lawful.0 run
