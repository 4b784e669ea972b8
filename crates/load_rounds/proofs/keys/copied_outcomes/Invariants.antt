use Rattle.std.proofs.Common.{◌≡◌, map, take, Some}
use Rattle.load_memory.specs.Keys.{key_of}
use Rattle.load_memory.specs.Outcomes.{outcome_of}
use Rattle.load_memory.specs.Pairs.{look}
use Rattle.execution.specs.Loads.{read}
use Rattle.load_rounds.specs.Calls.{load_of}
use Rattle.load_rounds.proofs.keys.copied_outcomes.Given as goal

abbrev pub invariant-loop-key : goal.invariant-loop-key
invariant-loop-key l = map (λ k. read l.memory.modes (look l.memory.pairs) (load_of l.loader k)) (map key_of (take l.key-index l.keys)) ≡ map Some (map outcome_of l.outcomes.items)
