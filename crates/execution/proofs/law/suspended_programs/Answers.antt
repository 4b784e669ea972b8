use Rattle.execution.proofs.Fitting.{fits-more, fits-exec, fits-front, fits-left, held-rest}
use Rattle.execution.proofs.law.suspended_programs.Goals as goal

pub returns-clause-goes_on : goal.returns-clause-goes_on
returns-clause-goes_on c = λ s p R Q f more. fits-more s p R Q more f

pub returns-clause-executed : goal.returns-clause-executed
returns-clause-executed c = λ s p R f. fits-exec s p R f

pub returns-clause-waits : goal.returns-clause-waits
returns-clause-waits c = λ modes s p M f. fits-front modes s p M f

pub returns-clause-left : goal.returns-clause-left
returns-clause-left c = λ s p R f. fits-left s p R f

pub returns-clause-holds : goal.returns-clause-holds
returns-clause-holds c = λ p R. held-rest p R
