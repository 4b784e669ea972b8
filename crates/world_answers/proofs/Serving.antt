-- Lines that are served in the session of a world's client have the text of direct execution.
use Rattle.std.proofs.Common.{◌≡◌, ◌∙◌, ◌⊎◌, ℕ, List, Option, map, inl, inr, sym, ap, subst}
use Rattle.csv_source.specs.Tables.{SourceOf}
use Rattle.load_queue.specs.Loaders.{as_made}
use Rattle.load_memory.specs.Replies.{ReplyOf}
use Rattle.execution.specs.Program.{Program}
use Rattle.load_rounds.specs.Headline.{MakesRounds, StopsAnswering}
use Rattle.load_rounds.specs.Sessions.{SessionOf, state_of, restarted}
use Rattle.load_rounds.specs.SharedRounds.{RequestOf as ExecutedOf, ReportOf}
use Rattle.load_rounds.specs.declared.limits.Limits.{Limits}
use Rattle.request_line.specs.Requests.{RequestOf}
use Rattle.server_lines.specs.Answering.{at_memory}
use Rattle.server_lines.specs.declared.fault.LineFault.{LineFault}
use Rattle.server_lines.specs.declared.fault.LineFault.TheVariants as fault
use Rattle.server.specs.Clients.{ClientOf, IsSameClient, client_of, begun}
use Rattle.server.specs.Answers as server
use Rattle.server.specs.Arrays as server_arrays
use Rattle.server.specs.Lines as server_lines
use Rattle.server.specs.Overruns.{AreGiven, answered, overrun}
use Rattle.server.proofs.Loaders.{rounds-made, stops-made}
use Rattle.world_answers.specs.Answers.{may_tell, IsGivenAlone, answered_alone, overrun_alone, AnswersRequest, faulty, planned}
use Rattle.world_answers.specs.Arrays.{AnswersTogether, AnswersArray}
use Rattle.world_answers.specs.Lines.{IsAnswer, no_request, request, several, IsClientOf, AnswersLine}
use Rattle.world_answers.specs.Services.{ServiceOf, server_in, limits_in}
use Rattle.world_answers.specs.Sessions.{IsOver}
use Rattle.world_answers.proofs.Restarting.{over-kept}
use Rattle.world_answers.proofs.Together.{answer-direct, direct-each}
use Rattle.world_answers.proofs.Values.{places-direct}

module _ (s : ServiceOf) (old new : SessionOf SourceOf) (over : IsOver s.world old) where
  abbrev c : ClientOf SourceOf
  c = client_of (server_in s) s.most (limits_in s) old

  same-over : new ≡ old → IsOver s.world (restarted new)
  same-over same = over-kept s.world old new over (ap (λ (x : SessionOf SourceOf). map as_made x.loaders) same)

  made-over : (p : Program) (log : List (List ReplyOf)) → MakesRounds may_tell (state_of old) (state_of new) p log → IsOver s.world (restarted new)
  made-over p log made = over-kept s.world old new over (rounds-made may_tell (state_of old) (state_of new) p log made)

  stop-over : (p : Program) → StopsAnswering may_tell (state_of old) (state_of new) p → IsOver s.world (restarted new)
  stop-over p stops = over-kept s.world old new over (stops-made may_tell (state_of old) (state_of new) p stops)

  -- ---- the text, and the session that is left

  request-served : (r : RequestOf) (report : ReportOf) → server.AnswersRequest may_tell c r report new → AnswersRequest s r report.text × IsOver s.world (restarted new)
  request-served r report (server.refused {text = text} h e same) = (faulty h.faulty (ap (λ (t : ReportOf). t.text) e ∙ h.report), same-over same)
  request-served r report (server.planned {plan = plan} h a) =
      (planned h (answer-direct s (state_of new) plan report.text report.rounds (record { valid = a.valid; begun = old; over = over; given = answered_alone a.headline a.within })), made-over _ _ a.headline.made)
  request-served r report (server.overrun {plan = plan} {o = o} h valid a same) =
      let given : IsGivenAlone s plan (state_of old) (state_of new) report.text report.rounds = overrun_alone {o = o} a (ap (λ (t : ReportOf). t.text) same) (ap (λ (t : ReportOf). t.rounds) same) in
      (planned h (answer-direct s (state_of new) plan report.text report.rounds (record { valid = valid; begun = old; over = over; given = given })), made-over _ _ a.made)

  given-over : (rs : List ExecutedOf) (reports : List ReportOf) → AreGiven may_tell (limits_in s) (state_of old) (state_of new) rs reports → IsOver s.world (restarted new)
  given-over rs reports (answered h within) = made-over _ _ h.made
  given-over rs reports (overrun h same) = made-over _ _ h.made

  array-direct : (values : List (Option RequestOf)) (report : ReportOf) → server_arrays.AnswersArray may_tell c values report new → AnswersArray s values report.text
  array-direct values report a =
      let shared : AnswersTogether s (server_arrays.plans_in a.places) (state_of new) (server_arrays.reports_in a.places) = record { begun = old; over = over; given = a.given } in
      record {
        places = a.places;
        each = places-direct s (server_arrays.plans_in a.places) values a.places a.each (direct-each s (state_of new) (server_arrays.plans_in a.places) (server_arrays.reports_in a.places) shared);
        report = a.text;
        valid = a.valid;
        after = state_of new;
        together = shared;
      }

  text-served : (line : List ℕ) (report : ReportOf) → server_lines.AnswersText may_tell c line report new → IsAnswer s line report.text × IsOver s.world (restarted new)
  text-served line report (server_lines.no_request h e same) = (no_request h (ap (λ (t : ReportOf). t.text) e), same-over same)
  text-served line report (server_lines.request {r = r} h a) = let served = request-served r report a in (request h served.0, served.1)
  text-served line report (server_lines.several {values = values} h a) = (several h (array-direct values report a), given-over _ _ a.given)

  -- ---- where memory ran out

  stops-text : (line : List ℕ) → server_lines.StopsText may_tell c line new → IsOver s.world (restarted new)
  stops-text line (server_lines.unread same) = same-over same
  stops-text line (server_lines.request h (server.unplanned same)) = same-over same
  stops-text line (server_lines.request h (server.stopped k stops)) = stop-over _ stops
  stops-text line (server_lines.several h (server_arrays.unplanned same)) = same-over same
  stops-text line (server_lines.several h (server_arrays.stopped refusals plans k stops)) = stop-over _ stops

-- ---- a client

module _ (s : ServiceOf) where
  -- the client, by the service
  client-is : (c : ClientOf SourceOf) → IsClientOf s c → begun c ≡ client_of (server_in s) s.most (limits_in s) (restarted c.session)
  client-is c is =
      ap (λ x. client_of x c.most c.limits (restarted c.session)) is.server
      ∙ ap (λ m. client_of (server_in s) m c.limits (restarted c.session)) is.most
      ∙ ap (λ (l : Limits). client_of (server_in s) s.most l (restarted c.session)) is.limits

  later-is : (c later : ClientOf SourceOf) → IsClientOf s c → IsSameClient c later → IsOver s.world (restarted later.session) → IsClientOf s later
  later-is c later is same over = record { server = same.server ∙ is.server; most = same.most ∙ is.most; limits = same.limits ∙ is.limits; over = over }

  line-served : (c : ClientOf SourceOf) (line : List ℕ) (report : ReportOf) (later : ClientOf SourceOf) → IsClientOf s c → server_lines.ServesLine may_tell c line report later → IsAnswer s line report.text × IsOver s.world (restarted later.session)
  line-served c line report later is h =
      text-served s (restarted c.session) later.session is.over line report (subst (λ (x : ClientOf SourceOf). server_lines.AnswersText may_tell x line report later.session) (client-is c is) h.answers)

  pub line-direct : (c : ClientOf SourceOf) (line : List ℕ) (report : ReportOf) (later : ClientOf SourceOf) → IsClientOf s c → server_lines.ServesLine may_tell c line report later → AnswersLine s c line report later
  line-direct c line report later is h = record { served = h; direct = (line-served c line report later is h).0 }

  pub line-client : (c : ClientOf SourceOf) (line : List ℕ) (report : ReportOf) (later : ClientOf SourceOf) → IsClientOf s c → server_lines.ServesLine may_tell c line report later → IsClientOf s later
  line-client c line report later is h = later-is c later is h.same (line-served c line report later is h).1

  stops-over : (c : ClientOf SourceOf) (line : List ℕ) (later : ClientOf SourceOf) → IsClientOf s c → (later.session ≡ c.session) ⊎ server_lines.StopsText may_tell (begun c) line later.session → IsOver s.world (restarted later.session)
  stops-over c line later is (inl same) = subst (λ x. IsOver s.world (restarted x)) (sym same) is.over
  stops-over c line later is (inr stops) =
      stops-text s (restarted c.session) later.session is.over line (subst (λ (x : ClientOf SourceOf). server_lines.StopsText may_tell x line later.session) (client-is c is) stops)

  pub stops-client : (c : ClientOf SourceOf) (line : List ℕ) (later : ClientOf SourceOf) → IsClientOf s c → server_lines.StopsLine may_tell c line later → IsClientOf s later
  stops-client c line later is h = later-is c later is h.same (stops-over c line later is h.stops)

  -- only want of memory keeps a line from its answer
  pub stopped-client : (e : LineFault) (c : ClientOf SourceOf) (line : List ℕ) (later : ClientOf SourceOf) → IsClientOf s c → at_memory (server_lines.StopsLine may_tell) e c line later → IsClientOf s later
  stopped-client fault.NoMemory c line later is h = stops-client c line later is h
  stopped-client fault.TraceFault c line later is h = absurd h
