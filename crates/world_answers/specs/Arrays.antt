-- Definitions of what answers an array of requests over a world: its answers in brackets, of which those of plans are given over one
-- session.
use Rattle.std.specs.Prelude.{◌≡◌, ℕ, List, map, Option}
use Rattle.std.specs.List.{All, AllZip}
use Rattle.csv_source.specs.Tables.{SourceOf}
use Rattle.gq_check.specs.Plans.{PlanOf}
use Rattle.gq_check.specs.Planned.{IsPlan}
use Rattle.load_rounds.specs.Sessions.{SessionOf, StateOf, state_of}
use Rattle.load_rounds.specs.SharedRounds.{ReportOf}
use Rattle.request_line.specs.Requests.{RequestOf}
use Rattle.plan_requests.specs.Planning.{IsRefused, HasPlan}
use Rattle.server.specs.Arrays.{PlaceOf, refused, answered, text_in, plans_in, reports_in, array_text}
use Rattle.server.specs.Overruns.{AreGiven}
use Rattle.server.specs.Plans.{requests_within}
use Rattle.world_answers.specs.Answers.{IsDirectText, may_tell}
use Rattle.world_answers.specs.Services.{ServiceOf, server_in, limits_in}
use Rattle.world_answers.specs.Sessions.{IsOver}

-- The plans were given these texts over one session of the world, which was new when it was opened and is in this state after all of
-- them: their answers with the headline, or, where together they are over the service's limits, the refusal of each. Its log holds what was
-- asked, in batches of at most the world's limit.
pub record AnswersTogether (s : ServiceOf) (plans : List PlanOf) (after : StateOf SourceOf)
    (reports : List ReportOf) : Type 0 where
  pub begun : SessionOf SourceOf
  pub over : IsOver s.world begun
  pub given : AreGiven may_tell (limits_in s) (state_of begun) after
      (requests_within s.most plans) reports

-- says what stands in the place of a value: its refusal, or the text of direct execution of its plan, which is asked together with these
abbrev pub IsInPlace : ServiceOf → List PlanOf → Option RequestOf → PlaceOf → Type 0
IsInPlace s plans value (refused text) = IsRefused (server_in s) value text
IsInPlace s plans value (answered plan report) = HasPlan (server_in s) value plan
    × IsDirectText s plans plan report.text

-- The text answers an array of these values by a service. Each value is answered in its place; whether that is too much work is said of all
-- plans together. The plans are of valid documents, and were all answered over one session, or all refused.
pub record AnswersArray (s : ServiceOf) (values : List (Option RequestOf))
    (text : List ℕ) : Type 0 where
  pub places : List PlaceOf
  pub each : AllZip (IsInPlace s (plans_in places)) values places
  pub report : text ≡ array_text (map text_in places)
  pub valid : All IsPlan (plans_in places)
  pub after : StateOf SourceOf
  pub together : AnswersTogether s (plans_in places) after (reports_in places)
