-- Definitions of what contracts see of an entry of a loader's log, and what a loader keeps of its log.
use Rattle.std.specs.Prelude.{◌≡◌, ◌<◌, ◌≤◌, ℕ, List, Option, Some, All, map, take, length}
use Rattle.load_memory.specs.Keys.{key_of}
use Rattle.load_queue.specs.Loaders.{AskedOf}
use Rattle.load_queue.specs.declared.loader.LogEntry.{LogEntry}

abbrev pub asked_of : LogEntry → AskedOf
asked_of a = record { round = a.round; keys = map key_of a.keys; stored = a.stored }

-- No public clause names it. No limit is 0, no entry is of a round after the latest, and `earlier`
-- entries are of rounds before it.
pub record IsLoader (limit : Option ℕ) (latest earlier : ℕ) (log : List AskedOf) : Type 0 where
  pub limited : (n : ℕ) → limit ≡ Some n → 0 < n
  pub upto : All (λ (a : AskedOf). a.round ≤ latest) log
  pub before : All (λ (a : AskedOf). a.round < latest) (take earlier log)
  pub within : earlier ≤ length log
