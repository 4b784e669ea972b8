-- Definitions of what answers a line: *Program output*, of one line.
use Rattle.std.specs.Prelude.{◌≡◌, ℕ, List, Option, Result}
use Rattle.csv_source.specs.Tables.{SourceOf}
use Rattle.server_lines.specs.Answering.{AnsweringOf}
use Rattle.server_lines.specs.Devices.{DevicesOf}
use Rattle.server_lines.specs.Serving.{Serves}
use Rattle.server_lines.specs.declared.fault.ServeFault.{ServeFault}
use Rattle.load_rounds.specs.Sessions.{restarted}
use Rattle.load_rounds.specs.SharedRounds.{ReportOf}
use Rattle.request_line.specs.Requests.{RequestOf, IsRequest, AreRequests, IsNoRequest}
use Rattle.plan_requests.specs.Planning.{not_a_request}
use Rattle.server.specs.Clients.{ClientOf}
use Rattle.server.specs.Lines.{ReportingOf, ServesLine, StopsLine, serving, with_text}
use Rattle.world_answers.specs.Answers.{may_tell, AnswersRequest}
use Rattle.world_answers.specs.Arrays.{AnswersArray}
use Rattle.world_answers.specs.Services.{ServiceOf, server_in, limits_in}
use Rattle.world_answers.specs.Sessions.{IsOver}

-- the text answers a line by a service
pub data IsAnswer (s : ServiceOf) (line text : List ℕ) : Type 0 where
  no_request : IsNoRequest line → text ≡ not_a_request → IsAnswer s line text
  request : {r : RequestOf} → IsRequest line r → AnswersRequest s r text → IsAnswer s line text
  several : {values : List (Option RequestOf)} → AreRequests line values
      → AnswersArray s values text → IsAnswer s line text

-- ---- the client of a run

-- The client is one of the service, with its limits: its session, once it starts again, is over the world's sources, with the world's limit.
pub record IsClientOf (s : ServiceOf) (c : ClientOf SourceOf) : Type 0 where
  pub server : c.server ≡ server_in s
  pub most : c.most ≡ s.most
  pub limits : c.limits ≡ limits_in s
  pub over : IsOver s.world (restarted c.session)

-- A line is answered by this text in the client's session, from which it starts again: the loaders were asked exactly the batches of a
-- lawful log for that line's plans, and nothing else. And the text is the one that answers the line, that of direct execution.
pub record AnswersLine (s : ServiceOf) (c : ClientOf SourceOf) (line : List ℕ)
    (report : ReportOf) (later : ClientOf SourceOf) : Type 0 where
  pub served : ServesLine may_tell c line report later
  pub direct : IsAnswer s line report.text

-- gives how the lines of a run are answered
abbrev pub reports : ServiceOf → ReportingOf SourceOf
reports s = record { gives = AnswersLine s; stops = StopsLine may_tell }

-- with their texts alone
abbrev pub answering : ServiceOf → AnsweringOf (ClientOf SourceOf)
answering s = with_text (reports s)

-- The lines that are served in the client's session have the text of direct execution each, and the client stays one of the service.
abbrev pub AreDirect : ServiceOf → ClientOf SourceOf
    → ClientOf SourceOf → DevicesOf → Result ℕ ServeFault → Type 0
AreDirect s c later d result = Serves (serving may_tell) c later d result
    → Serves (answering s) c later d result × IsClientOf s later
