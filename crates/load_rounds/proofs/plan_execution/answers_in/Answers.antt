use Rattle.std.proofs.Common.{◌≡◌, ◌++◌, ◌∙◌, [], map, ap, sym, arith}
use Rattle.std.proofs.lemmas.List.{append-nil}
use Rattle.load_rounds.specs.SharedRounds.{report_of}
use Rattle.load_rounds.specs.Executions.{reports_in}
use Rattle.load_rounds.proofs.Running.{none-left}
use Rattle.load_rounds.proofs.plan_execution.answers_in.Goals as goal

pub returns : goal.returns
returns g c =
    let so_far = map report_of c.loop-execution.answers.items in
    let rest = c.loop-execution.execution-iterator.rest in
    let none : rest.items ≡ [] = none-left rest.items (omega (arith, c.in-None.ensures.steps.0, rest.ok)) in
    sym (append-nil so_far) ∙ ap (λ xs. so_far ++ reports_in xs) (sym none) ∙ c.loop-execution.invariant
