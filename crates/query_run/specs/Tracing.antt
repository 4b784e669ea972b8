-- Lines that are served for a client of a service, with a trace.
use Rattle.std.specs.Prelude.{◌≡◌, ◌⊎◌, ℕ, List, Option, Some, None, Result}
use Rattle.csv_source.specs.Tables.{SourceOf}
use Rattle.server_lines.specs.declared.fault.ServeFault.{ServeFault}
use Rattle.server_lines.specs.declared.fault.ServeFault.TheVariants as serve
use Rattle.server_lines.specs.Devices.{DevicesOf}
use Rattle.server_lines.specs.Serving.{Serves}
use Rattle.server_lines.specs.declared.device.CountedDevice.{CountedDevice}
use Rattle.server_traces.specs.Tracing.{TraceDevice, TracedOf, trace_device, traced_of, tracing}
use Rattle.server_traces.specs.declared.traced_client.TracedClient.{TracedClient}
use Rattle.query_command.specs.declared.run_end.RunEnd.{RunEnd}
use Rattle.query_command.specs.declared.run_end.RunEnd.TheVariants as stop
use Rattle.query_command.specs.declared.origin.LocatedRunEnd.{LocatedRunEnd}
use Rattle.server.specs.Clients.{ClientOf}
use Rattle.world_answers.specs.Lines.{IsClientOf, reports}
use Rattle.world_answers.specs.Services.{ServiceOf, service_of}
use Rattle.world_answers.specs.declared.service.Service.{Service}
use Rattle.world_files.specs.Folders.{IsWritten}
use Rattle.batch_workers.specs.Workers.{IsBadCount}
use Rattle.query_run.specs.Serving.{EndsServing, IsMiscounted, IsUntouched}
use Rattle.query_run.specs.declared.context.RunContext.{RunContext}
use Rattle.query_run.specs.declared.tracing.TracedRun.{TracedRun}

-- The lines of a reader were served and traced for a client of the service: each is answered in its session, which starts again before the
-- line, and the batches that its answer asked are in the trace.
abbrev pub TracesClient : ServiceOf → TracedOf SourceOf
    → TracedOf SourceOf → DevicesOf → Result ℕ ServeFault → Type 0
TracesClient service f g d result = IsClientOf service f.client
    × Serves (tracing (reports service)) f g d result

-- all of the input was read, and what was written is the output of its lines and their trace; or serving stopped at a fault
abbrev pub IsTraced : ServiceOf → TracedOf SourceOf
    → TracedOf SourceOf → DevicesOf → RunEnd → Type 0
IsTraced service f g d end = EndsServing (TracesClient service f g d) ⊥ end

-- with workers lines are served and traced alike, if their number isn't refused
abbrev pub IsTracedBy : Option ℕ → ServiceOf → TracedOf SourceOf
    → TracedOf SourceOf → DevicesOf → RunEnd → Type 0
IsTracedBy None service f g d end = IsTraced service f g d end
IsTracedBy (Some workers) service f g d end = (¬ (IsBadCount workers) → IsTraced service f g d end)
    × (IsBadCount workers → IsMiscounted d end × (g ≡ f))

abbrev pub traced_by : ClientOf SourceOf → TraceDevice → TracedOf SourceOf
traced_by client device = record { client = client; device = device }

-- for a new client, from the device of the trace as it was to the device as it is; or memory ran out before, and nothing was done
abbrev pub IsTracedFrom : Option ℕ → ServiceOf → TraceDevice
    → TraceDevice → DevicesOf → RunEnd → Type 0
IsTracedFrom workers service first last d end =
    ((client : ClientOf SourceOf) × (later : ClientOf SourceOf)
    × IsTracedBy workers service (traced_by client first) (traced_by later last) d end)
    ⊎ ((end ≡ stop.Serve serve.NoMemory) × IsUntouched d × (last ≡ first))

-- A file was created for the trace, which was empty then, and once it is closed it holds all that was traced, as far as that is known.
pub record HasTrace (held : Option (List ℕ)) (workers : Option ℕ) (service : ServiceOf)
    (d : DevicesOf) (end : RunEnd) : Type 0 where
  pub first : TraceDevice
  pub last : TraceDevice
  pub served : IsTracedFrom workers service first last d end
  pub kept : IsWritten held first.contents last.contents

-- the file of the trace couldn't be created, or there was no memory for it, and nothing was read or written
pub record HasNoTrace (d : DevicesOf) (end : RunEnd) : Type 0 where
  pub told : (end ≡ stop.Serve serve.TraceFault) ⊎ (end ≡ stop.Serve serve.NoMemory)
  pub untouched : IsUntouched d

abbrev pub IsTracedTo : Option (List ℕ) → Option ℕ → ServiceOf → DevicesOf → RunEnd → Type 0
IsTracedTo held workers service d end = HasTrace held workers service d end ⊎ HasNoTrace d end

-- ---- the same, as the functions of a run see it

-- the lines of a reader were served and traced for the client of any service that it is of, with workers where their number is given
abbrev pub TracesFor : {T : Type 0} → Option ℕ → (T → Option (List ℕ))
    → TracedClient SourceOf T → TracedClient SourceOf T → DevicesOf → RunEnd → Type 0
TracesFor workers contents old new d end = (s : ServiceOf) → IsClientOf s old.client
    → IsTracedBy workers s (traced_of contents old) (traced_of contents new) d end

-- they were served and traced for a new client of the service
abbrev pub TracesService : {R T : Type 0} → (T → Option (List ℕ))
    → RunContext R → Service → CountedDevice T → DevicesOf → TracedRun T → Type 0
TracesService contents run service trace d traced =
    IsTracedFrom run.words.now.workers (service_of service) (trace_device contents trace)
    (trace_device contents traced.trace) d traced.stop

-- they were traced to a file, which holds this then
abbrev pub TracesTo : {R : Type 0} → Option (List ℕ)
    → RunContext R → Service → DevicesOf → LocatedRunEnd → Type 0
TracesTo held run service d end =
    IsTracedTo held run.words.now.workers (service_of service) d end.stop
