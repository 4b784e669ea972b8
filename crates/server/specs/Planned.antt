-- Plans of what is asked, and what answers them.
use Rattle.std.specs.Prelude.{◌≡◌, ◌+◌, ℕ, Bool, true, false, List, [], ◌∷◌, ◌++◌, map, length, Option, Some, None}
use Rattle.load_memory.specs.Keys.{KeyOf}
use Rattle.load_queue.specs.Answers.{AnswerOf}
use Rattle.execution.specs.Reads.{counted}
use Rattle.gq_check.specs.Plans.{PlanOf}
use Rattle.load_rounds.specs.Sessions.{SessionOf}
use Rattle.load_rounds.specs.SharedRounds.{ReportOf, greatest}
use Rattle.request_line.specs.Requests.{RequestOf, IsRequest, AreRequests, IsNoRequest}
use Rattle.plan_requests.specs.Planning.{PlanValues}
use Rattle.plan_requests.specs.Servers.{ServerOf}
use Rattle.server.specs.Answers.{unasked, AnswersRequest, StopsRequest}
use Rattle.server.specs.Arrays.{AnswersArray, StopsArray, array_text, in_places}
use Rattle.server.specs.Plans.{AreLimited}
use Rattle.server.specs.Clients.{ClientOf}
use Rattle.server.specs.Kept.{PreparedRequest, plans_in, refusal_in}
use Rattle.server.specs.Lines.{AnswersText, StopsText}
use Rattle.gq_resolve.specs.PreparedPlans.{LimitedPlanOf}

-- says what is asked: a request, several, or text that may be either
pub data AskedOf : Type 0 where
  one : RequestOf → AskedOf
  several : List (Option RequestOf) → AskedOf
  text : List ℕ → AskedOf

-- tells whether several are asked, the refusal of each that has no plan, the plans of the others, and below which number their
-- loaders are
pub record PlannedOf : Type 0 where
  pub many : Bool
  pub refusals : List (Option (List ℕ))
  pub plans : List LimitedPlanOf
  pub loaders : ℕ

-- nothing is planned yet
abbrev pub nothing_planned : Bool → ℕ → PlannedOf
nothing_planned many loaders =
    record { many = many; refusals = []; plans = []; loaders = loaders }

-- one request more was planned: it has its refusal, or its plan within a limit
pub record AddsRequest (most : Option ℕ) (prepared : PreparedRequest)
    (old new : PlannedOf) : Type 0 where
  pub many : new.many ≡ old.many
  pub refusals : new.refusals ≡ old.refusals ++ refusal_in prepared ∷ []
  pub plans : new.plans ≡ old.plans ++ plans_in most prepared
  pub loaders : new.loaders ≡ old.loaders

-- a server plans each of these values: it has its refusal, or its plan within a limit
pub record PlansEach (s : ServerOf) (most : Option ℕ) (values : List (Option RequestOf))
    (planned : PlannedOf) : Type 0 where
  pub plans : List PlanOf
  pub limited : AreLimited most plans planned.plans
  pub each : PlanValues s values planned.refusals plans

-- gives the same of what is asked alone, or in an array
pub record PlansAll (s : ServerOf) (most : Option ℕ) (values : List (Option RequestOf))
    (many : Bool) (planned : PlannedOf) : Type 0 where
  pub each : PlansEach s most values planned
  pub many_is : planned.many ≡ many
  pub loaders : planned.loaders ≡ length s.bindings.loaders

-- it is one request, which is refused
abbrev pub refuses_one : {X : Type 0} → Bool → List X → Bool
refuses_one true plans = false
refuses_one false [] = true
refuses_one false (plan ∷ plans) = false

abbrev pub is_refused : PlannedOf → Bool
is_refused planned = refuses_one planned.many planned.plans

-- says what is planned of a text: it is no request, or one, or several
pub data IsTextPlanned (s : ServerOf) (asked : List ℕ) (many : Bool)
    (refusals : List (Option (List ℕ))) (plans : List PlanOf) : Type 0 where
  no_request : IsNoRequest asked → many ≡ false → PlanValues s (None ∷ []) refusals plans
      → IsTextPlanned s asked many refusals plans
  request : {r : RequestOf} → IsRequest asked r → many ≡ false
      → PlanValues s (Some r ∷ []) refusals plans → IsTextPlanned s asked many refusals plans
  several_requests : {values : List (Option RequestOf)} → AreRequests asked values
      → many ≡ true → PlanValues s values refusals plans
      → IsTextPlanned s asked many refusals plans

-- a server plans what it is asked with these refusals and plans
abbrev pub IsPlannedAs : ServerOf → AskedOf → Bool → List (Option (List ℕ)) → List PlanOf → Type 0
IsPlannedAs s (one r) many refusals plans = (many ≡ false)
    × PlanValues s (Some r ∷ []) refusals plans
IsPlannedAs s (several values) many refusals plans = (many ≡ true)
    × PlanValues s values refusals plans
IsPlannedAs s (text asked) many refusals plans = IsTextPlanned s asked many refusals plans

-- what is asked is planned over a server, within a limit
pub record PlansFor (s : ServerOf) (most : Option ℕ) (asked : AskedOf)
    (planned : PlannedOf) : Type 0 where
  pub plans : List PlanOf
  pub limited : AreLimited most plans planned.plans
  pub planned_as : IsPlannedAs s asked planned.many planned.refusals plans

-- a client plans what it is asked over its server, and within its limit
abbrev pub PlansAsked : {S : Type 0} → ClientOf S → AskedOf → PlannedOf → Type 0
PlansAsked c asked planned = PlansFor c.server c.most asked planned

-- the response to one request: the answer to its plan, or its refusal
abbrev pub IsOneResponse : List (Option (List ℕ)) → List ReportOf → ReportOf → Type 0
IsOneResponse refusals (t ∷ []) report = report ≡ t
IsOneResponse (Some refusal ∷ []) [] report = report ≡ unasked refusal
IsOneResponse refusals reports report = Unit {0}

-- the loads of all answers, added up
abbrev pub all_loads : List ReportOf → ℕ
all_loads [] = 0
all_loads (t ∷ ts) = t.loads + all_loads ts

-- the response that is made of the answers to the plans
abbrev pub IsResponseOf : Bool → List (Option (List ℕ)) → List ReportOf → ReportOf → Type 0
IsResponseOf true refusals reports report =
    (report.text ≡ array_text (in_places refusals (map (λ (t : ReportOf). t.text) reports)))
    × (report.rounds ≡ greatest reports) × (report.loads ≡ counted (all_loads reports))
IsResponseOf false refusals reports report = IsOneResponse refusals reports report

abbrev pub IsResponse : PlannedOf → List ReportOf → ReportOf → Type 0
IsResponse planned reports report = IsResponseOf planned.many planned.refusals reports report

module _ {S : Type 0} (may : S → List KeyOf → AnswerOf → Type 0) where
  -- a client answers what it is asked in its session
  abbrev pub AnswersAsked : ClientOf S → AskedOf → ReportOf → SessionOf S → Type 0
  AnswersAsked c (one r) report new = AnswersRequest may c r report new
  AnswersAsked c (several values) report new = AnswersArray may c values report new
  AnswersAsked c (text asked) report new = AnswersText may c asked report new

  -- it is given up, or memory ran out at it
  abbrev pub StopsAsked : ClientOf S → AskedOf → SessionOf S → Type 0
  StopsAsked c (one r) new = StopsRequest may c r new
  StopsAsked c (several values) new = StopsArray may c values new
  StopsAsked c (text asked) new = StopsText may c asked new
