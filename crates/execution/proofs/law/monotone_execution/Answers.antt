use Rattle.execution.specs.Loads.{read}
use Rattle.execution.proofs.Same.{reads-more}
use Rattle.execution.proofs.Monotone.{exec-defined, exec-stays, front-open, needs-grow}
use Rattle.execution.proofs.law.monotone_execution.Goals as goal

pub returns-clause-defined : goal.returns-clause-defined
returns-clause-defined c = λ modes p M. exec-defined modes p M

pub returns-clause-same : goal.returns-clause-same
returns-clause-same c = λ modes p M N more none. exec-stays p (read modes M) (read modes N) (reads-more modes M N more) ((front-open modes p M).0 none)

pub returns-clause-grows : goal.returns-clause-grows
returns-clause-grows c = λ modes p M N load more is. needs-grow p (read modes M) (read modes N) (reads-more modes M N more) load is
