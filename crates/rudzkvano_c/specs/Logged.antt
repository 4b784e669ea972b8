-- Copies of what a loader was asked.
use Rattle.std.specs.Prelude.{ℕ, ◌≡◌, List, length, map, Result, Ok, Err, OnOk}
use Rattle.load_memory.specs.Keys.{KeyOf}
use Rattle.load_queue.specs.Loaders.{AskedOf}
use Rattle.flat_orders.specs.Written as written
use Rattle.host_clients.specs.Logs.{AreBatches, LogHolds, keys_in}
use Rattle.host_clients.specs.declared.client.HostClient.{HostClient}
use Rattle.host_clients.specs.declared.fault.Fault.{Fault}
use Rattle.rudzkvano_c.specs.declared.keys.LogSizes.{LogSizes}

-- the buffers say the log of a client's loader
abbrev pub CopiesLog : ℕ → List ℕ → List ℕ → List (List KeyOf)
    → HostClient → Result (Unit {0}) Fault → Type 0
CopiesLog loader rounds stored keys client done =
    OnOk done (LogHolds (λ log. AreBatches log rounds stored keys) client loader)

-- a batch of each entry, with its keys and their texts
abbrev pub log_sizes : List AskedOf → LogSizes
log_sizes log = let lists = map keys_in log in
    record {
      batches = length log;
      keys = length (written.keys_in lists);
      texts = length (written.all_texts lists);
      bytes = written.size_of (written.all_texts lists);
    }

abbrev pub TellsLogSizes : ℕ → LogSizes → HostClient → Result (Unit {0}) Fault → Type 0
TellsLogSizes loader sizes client done =
    OnOk done (LogHolds (λ log. sizes ≡ log_sizes log) client loader)

-- they are written, unless the call is refused
abbrev pub AreSizesTold : Result LogSizes Fault → LogSizes → LogSizes
    → Result (Unit {0}) Fault → Type 0
AreSizesTold (Ok sizes) old new done = (new ≡ sizes) × (done ≡ Ok tt)
AreSizesTold (Err e) old new done = (new ≡ old) × (done ≡ Err e)
