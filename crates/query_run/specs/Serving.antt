-- Lines that are served for a client of a service.
use Rattle.std.specs.Prelude.{◌≡◌, ◌⊎◌, ℕ, Option, Some, None, Result, Ok, Err}
use Rattle.std.specs.Io.KnownBytes.{Keeps}
use Rattle.csv_source.specs.Tables.{SourceOf}
use Rattle.server_lines.specs.declared.fault.ServeFault.{ServeFault}
use Rattle.server_lines.specs.declared.fault.ServeFault.TheVariants as serve
use Rattle.server_lines.specs.Devices.{DevicesOf}
use Rattle.server_lines.specs.Serving.{Serves}
use Rattle.query_command.specs.declared.run_end.RunEnd.{RunEnd}
use Rattle.query_command.specs.declared.run_end.RunEnd.TheVariants as stop
use Rattle.server.specs.Clients.{ClientOf}
use Rattle.world_answers.specs.Lines.{IsClientOf, answering}
use Rattle.world_answers.specs.Services.{ServiceOf}
use Rattle.batch_workers.specs.Workers.{IsBadCount}

-- nothing was read or written
pub record IsUntouched (d : DevicesOf) : Type 0 where
  pub unasked : Keeps d.unread d.rest
  pub kept : Keeps d.old d.new

-- The lines of a reader were served for a client of the service: each is answered in its session, which starts again before the line.
abbrev pub ServesClient : ServiceOf → DevicesOf → Result ℕ ServeFault → Type 0
ServesClient service d result = (client : ClientOf SourceOf)
    × (later : ClientOf SourceOf) × IsClientOf service client
    × Serves (answering service) client later d result

-- says how serving lines ends a run: all were served, or it stopped at a fault, or memory ran out before it began
abbrev pub EndsServing : (Result ℕ ServeFault → Type 0) → Type 0 → RunEnd → Type 0
EndsServing Ends Unbegun stop.Served = (lines : ℕ) × Ends (Ok lines)
EndsServing Ends Unbegun (stop.Serve fault) = Ends (Err fault)
    ⊎ ((fault ≡ serve.NoMemory) × Unbegun)
EndsServing Ends Unbegun (stop.Help text) = ⊥
EndsServing Ends Unbegun (stop.Command text) = ⊥
EndsServing Ends Unbegun (stop.World fault) = ⊥
EndsServing Ends Unbegun (stop.Table fault) = ⊥
EndsServing Ends Unbegun stop.File = ⊥

-- All of the input was read, and what was written is the output of its lines; or serving stopped at a fault, or before it began for
-- want of memory.
abbrev pub IsServed : ServiceOf → DevicesOf → RunEnd → Type 0
IsServed service d end = EndsServing (ServesClient service d) (IsUntouched d) end

-- the number of workers isn't 1 to 16: that is said, and nothing was read or written
pub record IsMiscounted (d : DevicesOf) (end : RunEnd) : Type 0 where
  pub reported : end ≡ stop.Serve serve.BadCount
  pub untouched : IsUntouched d

-- with workers lines are served alike, if their number isn't refused
abbrev pub IsServedBy : Option ℕ → ServiceOf → DevicesOf → RunEnd → Type 0
IsServedBy None service d end = IsServed service d end
IsServedBy (Some workers) service d end = (¬ (IsBadCount workers) → IsServed service d end)
    × (IsBadCount workers → IsMiscounted d end)
