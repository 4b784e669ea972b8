use Rattle.std.proofs.Common.{ap}
use Rattle.execution.proofs.OneLog.{one-log, log-direct}
use Rattle.execution.proofs.law.one_lawful_log.Goals as goal

pub returns-clause-rounds : goal.returns-clause-rounds
returns-clause-rounds c = λ item log others last h. (one-log item log.rules log.program log.start log.rounds others log.end last h.one h.other).0

pub returns-clause-memory : goal.returns-clause-memory
returns-clause-memory c = λ item log others last h loader key.
    ap (λ m. m loader key) (one-log item log.rules log.program log.start log.rounds others log.end last h.one h.other).1

pub returns-clause-direct : goal.returns-clause-direct
returns-clause-direct c = λ item log fits h. log-direct item log.rules log.program fits.alike log.start log.rounds log.end fits.held h
