use Rattle.std.proofs.Common.{◌≡◌, map, replicate}
use Rattle.load_memory.specs.Outcomes.{outcome_of, batch_fault}
use Rattle.load_queue.proofs.outcomes.outcomes_of_fault.Given as goal

abbrev pub invariant-loop : goal.invariant-loop
invariant-loop l = map outcome_of l.outcomes.items ≡ replicate l.counter (batch_fault l.text)
