use Rattle.std.proofs.Common.{sym, ◌∙◌}
use Rattle.execution.proofs.NullLaws.{nulls-path, exec-completion, completed-only}
use Rattle.execution.proofs.law.completion.Goals as goal

pub returns-clause-paths : goal.returns-clause-paths
returns-clause-paths c = λ t. nulls-path t

pub returns-clause-answer : goal.returns-clause-answer
returns-clause-answer c = λ p R a. exec-completion p R a

pub returns-clause-one : goal.returns-clause-one
returns-clause-one c = λ t a b h k. completed-only t a h ∙ sym (completed-only t b k)
