use Rattle.std.proofs.Common.{◌≡◌, ◌++◌, map}
use Rattle.load_rounds.specs.SharedRounds.{report_of}
use Rattle.load_rounds.specs.Executions.{reports_in}
use Rattle.load_rounds.proofs.plan_execution.answers_in.Given as goal

abbrev pub invariant-loop-execution : goal.invariant-loop-execution
invariant-loop-execution g l = map report_of l.answers.items ++ reports_in l.execution-iterator.rest.items ≡ reports_in l.fn.executions.items
