use Rattle.std.proofs.Common.{◌≡◌, map}
use Rattle.load_memory.specs.Outcomes.{item_of, outcome_of, known}
use Rattle.load_queue.proofs.outcomes.outcomes_of_items.Given as goal

abbrev pub invariant-loop-item : goal.invariant-loop-item
invariant-loop-item l = map outcome_of l.outcomes.items ≡ map known (map item_of l.yielded)
