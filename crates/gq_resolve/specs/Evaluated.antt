-- Definitions of what an execution lacks, and what it adds to the wants.
use Rattle.std.specs.Prelude.{◌≡◌, List, ◌++◌}
use Rattle.load_memory.specs.Pairs.{MemoryOf, look}
use Rattle.load_queue.specs.Wanted.{WantedOf}
use Rattle.execution.specs.Loads.{Load}
use Rattle.execution.specs.Program.{Program, needs}
use Rattle.execution.specs.Front.{front, missing, wanting}
use Rattle.plan_walk.specs.Reading.{reader}

-- the loads that are needed and that the memory lacks
abbrev pub front_over : MemoryOf → Program → List Load
front_over m p = front m.modes p (look m.pairs)

-- all loads that the program needs and the memory lacks, equal cache keys too
abbrev pub missing_over : MemoryOf → Program → List Load
missing_over m p = missing (reader m) (needs p (reader m))

-- The wants are the old ones, to which the first of these loads were added.
pub record AddsPart (old new : List WantedOf) (loads : List Load) : Type 0 where
  pub part : List Load
  pub left : List Load
  pub split : loads ≡ part ++ left
  pub added : new ≡ wanting old part
