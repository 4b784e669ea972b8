-- Lines that are traced in the session of a world's client have the text of direct execution; and no file is written but that of the trace.
use Rattle.std.proofs.Common.{◌≡◌, ◌∙◌, ◌⊎◌, inl, inr, ℕ, List, Some, None, subst, string_bytes}
use Rattle.std.specs.Prelude.{Option, Result, String, IfOk, IfErr, OnOk}
use Rattle.std.specs.declared.alloc.Global.{Global}
use Rattle.csv_source.specs.Tables.{SourceOf}
use Rattle.server_lines.specs.Devices.{DevicesOf}
use Rattle.server_lines.specs.Serving.{Serves}
use Rattle.server_lines.specs.declared.fault.LineFault.{LineFault}
use Rattle.server_lines.specs.declared.fault.LineFault.TheVariants as fault
use Rattle.server_lines.specs.declared.fault.ServeFault.{ServeFault}
use Rattle.server_lines.proofs.Widening.{serves_kept}
use Rattle.server_traces.specs.Tracing.{TracedOf, TracesLine, StopsTracing, unanswered, untraced, tracing, FailsText, HasTraced, session_line}
use Rattle.server_traces.proofs.Tracing.{traces-answer}
use Rattle.load_rounds.specs.SharedRounds.{report_of}
use Rattle.load_rounds.specs.declared.answer.Answer.{Answer}
use Rattle.server.specs.Clients.{ClientOf}
use Rattle.server.specs.Lines.{ServesLine, reporting}
use Rattle.world_answers.specs.Answers.{may_tell}
use Rattle.world_answers.specs.Lines.{IsClientOf, reports}
use Rattle.world_answers.specs.Services.{ServiceOf}
use Rattle.world_answers.proofs.Serving.{line-direct, line-client, stops-client}
use Rattle.world_files.specs.Folders.{Holdings, IsAllOf, WritesNoOther}
use Rattle.world_files.specs.Opening.{IsUncreated}
use Rattle.world_files.specs.declared.fault.FileFault.{FileFault}
use Rattle.world_files.specs.declared.fault.FileFault.TheVariants as opening
use Rattle.query_command.specs.RunEnds.{stop_of}
use Rattle.query_command.specs.declared.run_end.RunEnd.{RunEnd}
use Rattle.query_command.specs.declared.run_end.RunEnd.TheVariants as stop
use Rattle.server_lines.specs.declared.fault.ServeFault.TheVariants as serve
use Rattle.query_command.specs.declared.command_words.CommandWords.{CommandWords}
use Rattle.query_command.specs.declared.origin.LocatedRunEnd.{LocatedRunEnd}
use Rattle.query_run.specs.Runs.{IsPlaced, IsPlacedTrace}
use Rattle.query_run.specs.Tracing.{TracesClient}

module _ (s : ServiceOf) where
  gives : (f : TracedOf SourceOf) (line text : List ℕ) (g : TracedOf SourceOf) → IsClientOf s f.client → TracesLine (reporting may_tell) f line text g → TracesLine (reports s) f line text g × IsClientOf s g.client
  gives f line text g is h = (record { report = h.report; is_text = h.is_text; answers = line-direct s f.client line h.report g.client is h.answers; traces = h.traces }, line-client s f.client line h.report g.client is h.answers)

  stops : (e : LineFault) (f : TracedOf SourceOf) (line : List ℕ) (g : TracedOf SourceOf) → IsClientOf s f.client → StopsTracing (reporting may_tell) e f line g → StopsTracing (reports s) e f line g × IsClientOf s g.client
  stops fault.NoMemory f line g is (unanswered stop quiet) = (unanswered stop quiet, stops-client s f.client line g.client is stop)
  stops fault.NoMemory f line g is (untraced {report = report} a quiet) = (untraced (line-direct s f.client line report g.client is a) quiet, line-client s f.client line report g.client is a)
  stops fault.TraceFault f line g is h = (record { report = h.report; answers = line-direct s f.client line h.report g.client is h.answers; cut = h.cut }, line-client s f.client line h.report g.client is h.answers)

  pub traced-direct : (f g : TracedOf SourceOf) (d : DevicesOf) (r : Result ℕ ServeFault) → IsClientOf s f.client → Serves (tracing (reporting may_tell)) f g d r → TracesClient s f g d r
  traced-direct f g d r is h = (is, (serves_kept (tracing (reporting may_tell)) (tracing (reports s)) (λ x. x) (λ x. IsClientOf s x.client) gives stops f g d r is h).0)

-- what comes of the trace of an answer, which leaves the client as it is
pub answer-traced : (r : Result (String Global) LineFault) (f g : TracedOf SourceOf) (mid : ClientOf SourceOf) (line : List ℕ) (answer : Answer) → mid ≡ g.client → ServesLine may_tell f.client line (report_of answer) mid → IfOk r (λ text. text ≡ answer.text)
    → OnOk r (HasTraced (session_line mid.session answer.loads) f.device g.device) → IfErr r (λ e. FailsText e (session_line mid.session answer.loads) f.device g.device)
    → IfOk r (λ text. TracesLine (reporting may_tell) f line (string_bytes text) g) × IfErr r (λ e. StopsTracing (reporting may_tell) e f line g)
answer-traced r f g mid line answer same given is went fails =
    traces-answer (reporting may_tell) r f g line answer (subst (λ (c : ClientOf SourceOf). ServesLine may_tell f.client line (report_of answer) c) same given) is
    (subst (λ (c : ClientOf SourceOf). OnOk r (HasTraced (session_line c.session answer.loads) f.device g.device)) same went)
    (subst (λ (c : ClientOf SourceOf). IfErr r (λ e. FailsText e (session_line c.session answer.loads) f.device g.device)) same fails)

known-after : (x y z : Option (List ℕ)) → IsAllOf y x → IsAllOf z y → IsAllOf z x
known-after x y None h k = tt
known-after x None (Some bytes) h k = absurd (cc k)
known-after x (Some more) (Some bytes) h k = h ∙ k

-- no other file is written by two steps of which neither writes one
pub no-other : (path : List ℕ) (a b c : Holdings) → WritesNoOther path a b → WritesNoOther path b c → WritesNoOther path a c
no-other path a b c h k other ne = known-after (a other) (b other) (c other) (h other ne) (k other ne)

-- the end of a run whose trace can't be created
pub uncreated-told : (fault : FileFault) (end : RunEnd) → IsUncreated fault → end ≡ stop_of fault → (end ≡ stop.Serve serve.TraceFault) ⊎ (end ≡ stop.Serve serve.NoMemory)
uncreated-told (opening.Unread file reason) end h e = absurd h
uncreated-told (opening.Table place fault reason) end h e = absurd h
uncreated-told (opening.World fault) end h e = absurd h
uncreated-told (opening.Uncreated reason) end h e = inl e
uncreated-told opening.NoMemory end h e = inr e

-- the place of the fault of a run of files, by that of its trace
pub placed-files : (words : CommandWords) (end : LocatedRunEnd) → IsPlacedTrace end → IsPlaced words end
placed-files words end (inl same) = inl same
placed-files words end (inr (fault, uncreated, told, at')) = inr (fault, inr (inr uncreated), told, at')
