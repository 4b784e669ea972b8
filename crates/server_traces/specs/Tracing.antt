-- Lines that are served with a trace.
use Rattle.std.specs.Prelude.{◌≡◌, ℕ, List, Option, Some, String, string_bytes}
use Rattle.std.specs.Io.KnownBytes.{Appends, Keeps}
use Rattle.std.specs.declared.alloc.Global.{Global}
use Rattle.server_lines.specs.Answering.{AnsweringOf}
use Rattle.server_lines.specs.Devices.{CountsOf, HasFault, IsFlushed, IsSteady, IsStuck, counts_of, device_of}
use Rattle.server_lines.specs.Lines.{ended}
use Rattle.server_lines.specs.Output.{IsCut}
use Rattle.server_lines.specs.declared.device.CountedDevice.{CountedDevice}
use Rattle.server_lines.specs.declared.fault.LineFault.{LineFault}
use Rattle.server_lines.specs.declared.fault.LineFault.TheVariants.{NoMemory, TraceFault}
use Rattle.load_rounds.specs.Sessions.{SessionOf}
use Rattle.load_trace.specs.Traces.{trace_of, trace_text}
use Rattle.load_rounds.specs.SharedRounds.{ReportOf}
use Rattle.server.specs.Clients.{ClientOf}
use Rattle.server.specs.Lines.{ReportingOf}
use Rattle.server_traces.specs.declared.traced_client.TracedClient.{TracedClient}

-- says what the device of a trace holds, as far as it tells that, and what it has counted
pub record TraceDevice : Type 0 where
  pub contents : Option (List ℕ)
  pub counts : CountsOf

abbrev pub trace_device : {T : Type 0} → (T → Option (List ℕ)) → CountedDevice T → TraceDevice
trace_device contents c = record { contents = contents (device_of c); counts = counts_of c }

-- the text went out whole, and was flushed
pub record HasTraced (text : List ℕ) (old new : TraceDevice) : Type 0 where
  pub went : Appends old.contents new.contents text
  pub steady : IsSteady old.counts new.counts
  pub flushed : IsFlushed new.counts

-- the device failed, and a front of the text went out
pub record HasCut (text : List ℕ) (old new : TraceDevice) : Type 0 where
  pub cut : IsCut old.contents new.contents text
  pub fault : HasFault IsStuck old.counts new.counts

-- nothing went out
pub record IsQuiet (old new : TraceDevice) : Type 0 where
  pub kept : Keeps old.contents new.contents
  pub steady : IsSteady old.counts new.counts

-- says why a text didn't go out whole
abbrev pub FailsText : LineFault → List ℕ → TraceDevice → TraceDevice → Type 0
FailsText NoMemory text old new = IsQuiet old new
FailsText TraceFault text old new = HasCut text old new

-- a client whose lines are traced, and the device of the trace
pub record TracedOf (S : Type 0) : Type 0 where
  pub client : ClientOf S
  pub device : TraceDevice

module _ {S : Type 0} where
  abbrev pub traced_of : {T : Type 0} → (T → Option (List ℕ)) → TracedClient S T → TracedOf S
  traced_of contents traced =
      record { client = traced.client; device = trace_device contents traced.trace }

  -- the trace of what a session asked since it started again, and of how many loads its answer read, with a line feed
  abbrev pub session_line : SessionOf S → ℕ → List ℕ
  session_line session loads = ended (trace_text (trace_of session (Some loads)))

  -- of a client that has answered a line with this report
  abbrev pub trace_after : ReportOf → ClientOf S → List ℕ
  trace_after report c = session_line c.session report.loads

  module _ (R : ReportingOf S) where
    -- A line is answered, and its trace went out: the batches that its answer asked, which are those of the client's logs then, and the
    -- loads that the answer read.
    pub record TracesLine (f : TracedOf S) (line text : List ℕ) (g : TracedOf S) : Type 0 where
      pub report : ReportOf
      pub is_text : report.text ≡ text
      pub answers : R.gives f.client line report g.client
      pub traces : HasTraced (trace_after report g.client) f.device g.device

    -- Memory ran out at a line, or for the text of its trace. Nothing is traced of it.
    pub data RunsOut (f : TracedOf S) (line : List ℕ) (g : TracedOf S) : Type 0 where
      unanswered : R.stops f.client line g.client
          → IsQuiet f.device g.device → RunsOut f line g
      untraced : {report : ReportOf} → R.gives f.client line report g.client
          → IsQuiet f.device g.device → RunsOut f line g

    -- A line was answered, but its trace couldn't be written whole, and so its answer isn't written.
    pub record CutsTrace (f : TracedOf S) (line : List ℕ) (g : TracedOf S) : Type 0 where
      pub report : ReportOf
      pub answers : R.gives f.client line report g.client
      pub cut : HasCut (trace_after report g.client) f.device g.device

    abbrev pub StopsTracing : LineFault → TracedOf S → List ℕ → TracedOf S → Type 0
    StopsTracing NoMemory f line g = RunsOut f line g
    StopsTracing TraceFault f line g = CutsTrace f line g

    -- gives how lines are served with a trace
    abbrev pub tracing : AnsweringOf (TracedOf S)
    tracing = record { gives = TracesLine; stops = StopsTracing }

  -- ---- the same, of a traced client whose device's contents a function says

  module _ {T : Type 0} (contents : T → Option (List ℕ)) (R : ReportingOf S)
      (old : TracedClient S T) where
    abbrev pub TracesBy : List ℕ → TracedClient S T → String Global → Type 0
    TracesBy line new text =
        TracesLine R (traced_of contents old) line (string_bytes text) (traced_of contents new)

    abbrev pub StopsBy : List ℕ → TracedClient S T → LineFault → Type 0
    StopsBy line new fault =
        StopsTracing R fault (traced_of contents old) line (traced_of contents new)
