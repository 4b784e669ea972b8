-- Lines of a traced client: what comes of the trace of an answer, and where there is none.
use Rattle.std.proofs.Common.{◌≡◌, ℕ, List, ap, subst, sym, string_bytes}
use Rattle.std.specs.Prelude.{Result, Ok, Err, String, IfOk, IfErr, OnOk}
use Rattle.std.specs.declared.alloc.Global.{Global}
use Rattle.std.proofs.KnownBytes.{Keeps-refl}
use Rattle.load_rounds.specs.SharedRounds.{ReportOf, report_of}
use Rattle.load_rounds.specs.declared.answer.Answer.{Answer}
use Rattle.server_lines.specs.declared.fault.LineFault.{LineFault}
use Rattle.server_lines.specs.declared.fault.LineFault.TheVariants as at
use Rattle.server_lines.proofs.Known.{steady_same}
use Rattle.server.specs.Lines.{ReportingOf}
use Rattle.server_traces.specs.Tracing.{FailsText, HasTraced, IsQuiet, StopsTracing, TraceDevice, TracedOf, TracesLine, session_line, unanswered, untraced}

module _ {S : Type 0} (R : ReportingOf S) where
  -- memory ran out at a line
  pub stops-line : (e : LineFault) (f g : TracedOf S) (line : List ℕ) → e ≡ at.NoMemory → R.stops f.client line g.client → g.device ≡ f.device → StopsTracing R e f line g
  stops-line at.NoMemory f g line e stops same = unanswered stops (subst (λ (d : TraceDevice). IsQuiet f.device d) (sym same) (record { kept = Keeps-refl _; steady = steady_same _ }))
  stops-line at.TraceFault f g line e stops same = absurd (cc e)

  -- a line was answered, but its trace didn't go out
  stops-trace : (e : LineFault) (f g : TracedOf S) (line : List ℕ) (report : ReportOf) → R.gives f.client line report g.client → FailsText e (session_line g.client.session report.loads) f.device g.device → StopsTracing R e f line g
  stops-trace at.NoMemory f g line report given fails = untraced given fails
  stops-trace at.TraceFault f g line report given fails = record { report = report; answers = given; cut = fails }

  -- what comes of the trace of an answer
  pub traces-answer : (r : Result (String Global) LineFault) (f g : TracedOf S) (line : List ℕ) (answer : Answer) → R.gives f.client line (report_of answer) g.client → IfOk r (λ text. text ≡ answer.text)
      → OnOk r (HasTraced (session_line g.client.session answer.loads) f.device g.device) → IfErr r (λ e. FailsText e (session_line g.client.session answer.loads) f.device g.device)
      → IfOk r (λ text. TracesLine R f line (string_bytes text) g) × IfErr r (λ e. StopsTracing R e f line g)
  traces-answer (Ok text) f g line answer given is went fails = (record { report = report_of answer; is_text = ap string_bytes (sym is); answers = given; traces = went }, tt)
  traces-answer (Err e) f g line answer given is went fails = (tt, stops-trace e f g line (report_of answer) given fails)
