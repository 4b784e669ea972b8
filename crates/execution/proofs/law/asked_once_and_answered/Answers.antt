use Rattle.execution.specs.Rounds.{any_answer}
use Rattle.execution.proofs.OnceLaws.{asked-once, answered-in, rounds-extend}
use Rattle.execution.proofs.law.asked_once_and_answered.Goals as goal

pub returns-clause-once : goal.returns-clause-once
returns-clause-once c = λ log positive is. asked-once any_answer log.rules log.program positive log.start log.rounds log.end is

pub returns-clause-answered : goal.returns-clause-answered
returns-clause-answered c = λ log pair is there. answered-in any_answer log.rules log.program log.start log.rounds log.end pair.loader pair.key pair.outcome is there

pub returns-clause-kept : goal.returns-clause-kept
returns-clause-kept c = λ log is. rounds-extend any_answer log.rules log.program log.start log.rounds log.end is
