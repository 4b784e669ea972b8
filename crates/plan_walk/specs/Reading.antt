-- Definitions of what a memory says of loads.
use Rattle.std.specs.Prelude.{length, nat_lt, None, if◌then◌else◌}
use Rattle.load_memory.specs.Pairs.{MemoryOf, look}
use Rattle.execution.specs.Loads.{Reader, read}

-- gives what a memory says of a load
abbrev pub reader : MemoryOf → Reader
reader m = read m.modes (look m.pairs)

-- gives what the memory says of the loads of its loaders; nothing of others, which no plan has
abbrev pub lookup : MemoryOf → Reader
lookup m load = if nat_lt load.loader (length m.modes) then reader m load else None
