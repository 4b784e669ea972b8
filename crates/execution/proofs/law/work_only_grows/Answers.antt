use Rattle.execution.specs.Loads.{read}
use Rattle.execution.specs.Program.{tree}
use Rattle.execution.specs.Completion.{top_position}
use Rattle.execution.proofs.Same.{reads-more}
use Rattle.execution.proofs.Monotone.{work-grows, positions-count}
use Rattle.execution.proofs.law.work_only_grows.Goals as goal

pub returns-clause-grows : goal.returns-clause-grows
returns-clause-grows c = λ modes p M N more. work-grows p (read modes M) (read modes N) (reads-more modes M N more)

pub returns-clause-positions : goal.returns-clause-positions
returns-clause-positions c = λ p R. positions-count (top_position (tree p R)) (tree p R)
