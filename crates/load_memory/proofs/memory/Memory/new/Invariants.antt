use Rattle.std.proofs.Common.{◌≡◌, [], length}
use Rattle.load_memory.specs.LoaderMemories.{pairs_from, HaveOwnKeys}
use Rattle.load_memory.proofs.memory.Memory.new.Given as goal

abbrev pub invariant-loop : goal.invariant-loop
invariant-loop l = record { many : length l.parts.items ≡ l.counter; own_keys : HaveOwnKeys l.parts.items; none : pairs_from 0 l.parts.items ≡ [] }
