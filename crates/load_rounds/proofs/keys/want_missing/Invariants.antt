use Rattle.std.proofs.Common.{map, take}
use Rattle.load_memory.specs.Keys.{key_of}
use Rattle.load_memory.specs.Pairs.{look}
use Rattle.execution.specs.Loads.{read}
use Rattle.load_rounds.proofs.Lacking.{LacksSoFar}
use Rattle.load_rounds.proofs.keys.want_missing.Given as goal

abbrev pub invariant-loop-key : goal.invariant-loop-key
invariant-loop-key l = LacksSoFar (read l.memory.modes (look l.memory.pairs)) l.loader l.fn.wants (map key_of (take l.key-index l.keys)) l.wants l.is_missing
