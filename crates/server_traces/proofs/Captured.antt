-- A closure that serves the lines of the traced client that it captured.
use Rattle.std.proofs.Common.{◌≡◌, ℕ, List}
use denote.Param.Members.{Mut}
use denote.Ref.{Bor, MutBor}
use Rattle.std.specs.declared.alloc.Global.{Global}
use Rattle.std.specs.Prelude.{Option, Result, Ok, Err, String, string_bytes}
use Rattle.server_lines.specs.Answering.{AnsweringOf, by_calls}
use Rattle.server_lines.specs.Devices.{DevicesOf}
use Rattle.server_lines.specs.Serving.{Serves}
use Rattle.server_lines.specs.declared.fault.LineFault.{LineFault}
use Rattle.server_lines.specs.declared.fault.ServeFault.{ServeFault}
use Rattle.server_lines.proofs.Widening.{serves_behind, serves_widened}
use Rattle.server.specs.Lines.{ReportingOf}
use Rattle.server_traces.specs.declared.traced_client.TracedClient.{TracedClient}
use Rattle.server_traces.specs.Tracing.{StopsTracing, TracedOf, TracesLine, traced_of, tracing}

module _ {F S T : Type 0} (contents : T → Option (List ℕ)) (R : ReportingOf S) (m : Mut F (Bor (List ℕ) × Unit {0}) (Result (String Global) LineFault)) (captured : F → MutBor (TracedClient S T)) where
  abbrev seen : TracedClient S T → TracedOf S
  seen = traced_of contents

  abbrev by_client : AnsweringOf (TracedClient S T)
  by_client = record { gives = λ f line text g. TracesLine R (seen f) line text (seen g); stops = λ e f line g. StopsTracing R e (seen f) line (seen g) }

  module _ (gives : (f : F) (line : Bor (List ℕ)) (text : String Global) (g : F) → m.steps f (line, tt) (Ok text) g
      → TracesLine R (seen (captured f).now) line.now (string_bytes text) (seen (captured g).now) × ((captured g).ghost_name ≡ (captured f).ghost_name))
      (stops : (f : F) (line : Bor (List ℕ)) (g : F) (e : LineFault) → m.steps f (line, tt) (Err e) g
      → StopsTracing R e (seen (captured f).now) line.now (seen (captured g).now) × ((captured g).ghost_name ≡ (captured f).ghost_name)) where
    pub serves_traced : (f g : F) (last : TracedClient S T) (d : DevicesOf) (r : Result ℕ ServeFault) → ((captured f).ghost_name ≡ (captured g).ghost_name → last ≡ (captured g).now)
        → Serves (by_calls m) f g d r → Serves (tracing R) (seen (captured f).now) (seen last) d r
    serves_traced f g last d r tie h =
        serves_widened by_client (tracing R) seen (λ f line text g k. k) (λ e f line g k. k) (captured f).now last d r
        (serves_behind m by_client captured (λ _. Unit {0}) (λ f line text g left k. let one = gives f line text g k in (one.0, one.1, tt)) (λ f line g left e k. let one = stops f line g e k in (one.0, one.1, tt)) f g last d r tt tie h).0
