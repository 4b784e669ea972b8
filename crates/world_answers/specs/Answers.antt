-- Definitions of what answers a request over a world: the text of direct execution, which no session, memory, batch or round changes.
use Rattle.std.specs.Prelude.{◌≡◌, ℕ, List, [], ◌∷◌, map, Option, Some, None, slice_get}
use Rattle.gq_check.specs.Plans.{PlanOf}
use Rattle.gq_check.specs.Planned.{IsPlan}
use Rattle.load_memory.specs.Keys.{KeyOf}
use Rattle.load_memory.specs.Outcomes.{ItemOf, rows}
use Rattle.csv_source.specs.Tables.{SourceOf, item_of_key}
use Rattle.load_queue.specs.Answers.{AnswerOf, given}
use Rattle.execution.specs.Executes.{IsTextOf}
use Rattle.execution.specs.Rounds.{direct}
use Rattle.plan_program.specs.PlanPrograms.{plan_program}
use Rattle.load_rounds.specs.Headline.{Headline}
use Rattle.load_rounds.specs.Limits.{work_of_all, IsWithin, IsOver as IsMore, AreWithin, AreRefused}
use Rattle.load_rounds.specs.Sessions.{SessionOf, StateOf, state_of}
use Rattle.load_rounds.specs.declared.limits.Excess.TheVariants.{Work}
use Rattle.load_rounds.specs.declared.limits.Overrun.{Overrun}
use Rattle.gq_resolve.specs.Within.{text_within}
use Rattle.request_line.specs.Requests.{RequestOf}
use Rattle.plan_requests.specs.Planning.{IsPlanned, IsFaulty, refusal_text}
use Rattle.plan_requests.specs.Requests.{request_message, request_place}
use Rattle.plan_requests.specs.declared.fault.RequestFault.{RequestFault}
use Rattle.server.specs.Overruns.{overrun_text}
use Rattle.server.specs.Plans.{requests_within}
use Rattle.world_answers.specs.Services.{ServiceOf, server_in, limits_in}
use Rattle.world_answers.specs.Sessions.{IsOver}

-- ---- *Direct execution*

-- the item of a key: its rows; a source that isn't there has none
abbrev pub item_from : Option SourceOf → KeyOf → ItemOf
item_from None key = rows []
item_from (Some source) key = item_of_key source key

-- the item of a key of the loader of this number
abbrev pub item_at : List SourceOf → ℕ → KeyOf → ItemOf
item_at sources loader key = item_from (slice_get sources loader) key

-- *Direct work*, of plans that are asked together: the sum of their works, with each load answered at once
abbrev pub direct_work : ServiceOf → List PlanOf → ℕ
direct_work s plans =
    work_of_all (requests_within s.most plans) (direct (item_at s.world.sources))

-- The text of a plan that is asked together with these, which are all of them. Where their direct work is over the service's limit, it is
-- the refusal of that. Else it is the text of *Execution tree* and *Completion* with each load answered at once, by the rows of its key;
-- where that is longer than the service's limit, the text of its refusal. No memory, batch or round is in it.
pub data IsDirectText (s : ServiceOf) (plans : List PlanOf) (plan : PlanOf)
    (text : List ℕ) : Type 0 where
  executed : IsWithin s.work (direct_work s plans)
      → IsTextOf (text_within s.most) (plan_program plan) (direct (item_at s.world.sources)) text
      → IsDirectText s plans plan text
  too_much : IsMore s.work (direct_work s plans)
      → text ≡ overrun_text Work → IsDirectText s plans plan text

-- ---- the session of a request

-- says what a source of a world may answer: the rows of each key
abbrev pub may_tell : SourceOf → List KeyOf → AnswerOf → Type 0
may_tell source keys answer = answer ≡ given (map (item_of_key source) keys)

-- What a plan is given that is asked alone, from one state to another: its answer with the headline, within the service's limits; or it is
-- over them, and refused, and the rounds that were made are lawful.
pub data IsGivenAlone (s : ServiceOf) (plan : PlanOf) (old new : StateOf SourceOf)
    (text : List ℕ) (rounds : ℕ) : Type 0 where
  answered_alone : Headline may_tell old new (plan_program plan) (text_within s.most) text rounds
      → AreWithin (limits_in s) (requests_within s.most (plan ∷ [])) new rounds
      → IsGivenAlone s plan old new text rounds
  overrun_alone : {o : Overrun}
      → AreRefused may_tell old new (limits_in s) (requests_within s.most (plan ∷ [])) o
      → text ≡ overrun_text o.excess → rounds ≡ o.rounds → IsGivenAlone s plan old new text rounds

-- The plan, which is of a valid document, was given this text in a session of the world,
-- which was new when it was opened and is in this state after `rounds` rounds: its log holds all
-- that was asked, in batches of at most the world's limit.
pub record AnswersAnew (s : ServiceOf) (plan : PlanOf) (after : StateOf SourceOf) (text : List ℕ)
    (rounds : ℕ) : Type 0 where
  pub valid : IsPlan plan
  pub begun : SessionOf SourceOf
  pub over : IsOver s.world begun
  pub given : IsGivenAlone s plan (state_of begun) after text rounds

-- ---- *Program output*, of one request

-- The text answers a plan that is asked alone: it is that of direct execution, and was given in a session that was new, with the headline or
-- for work over the limit.
pub record IsAnsweredAnew (s : ServiceOf) (plan : PlanOf) (text : List ℕ) : Type 0 where
  pub direct : IsDirectText s (plan ∷ []) plan text
  pub after : StateOf SourceOf
  pub rounds : ℕ
  pub answers : AnswersAnew s plan after text rounds

-- The text answers a request by a service: the refusal of its first fault, with its message and its place, or the answer of
-- its plan, in a session of its own.
pub data AnswersRequest (s : ServiceOf) (request : RequestOf) (text : List ℕ) : Type 0 where
  faulty : {fault : RequestFault} → IsFaulty (server_in s) request fault
      → text ≡ refusal_text (request_message fault) (request_place fault)
      → AnswersRequest s request text
  planned : {plan : PlanOf} → IsPlanned (server_in s) request plan
      → IsAnsweredAnew s plan text → AnswersRequest s request text
