-- Definitions of what requests ask of a server: their plans, and the texts that refuse the others.
use Rattle.std.specs.Prelude.{◌≡◌, ℕ, false, List, [], ◌∷◌, Option, Some, None, Result, Ok, Err, codes, String, string_bytes}
use Rattle.std.specs.Global.{Global}
use Rattle.text_place.specs.declared.place.Place.{Place}
use Rattle.serde_json.specs.Data.{Data, null}
use Rattle.gq_schema.specs.Types.{tree_of}
use Rattle.gq_check.specs.Plans.{PlanOf, PlanParts, IsSameBut, plan_of}
use Rattle.answer_json.specs.Answer.{json_text, refusal_json}
use Rattle.request_line.specs.Requests.{RequestOf}
use Rattle.plan_requests.specs.declared.fault.RequestFault.{RequestFault}
use Rattle.plan_requests.specs.Requests.{IsPlanOf, IsRequestFault, is_want_of_memory, request_message, request_place}
use Rattle.plan_requests.specs.Servers.{ServerOf}

-- ---- one request

-- variables that aren't given are null, as where none have values
abbrev pub values_of : Option Data → Data
values_of None = null
values_of (Some d) = d

-- the plan of a request over a server
pub record IsPlanned (s : ServerOf) (request : RequestOf) (plan : PlanOf) : Type 0 where
  pub definitions : plan.definitions ≡ tree_of s.definitions
  pub bindings : plan.bindings ≡ s.bindings
  pub planned : IsPlanOf (tree_of s.definitions) request.query request.operation_name
      (values_of request.variables) plan

-- the first fault of a request over a server; that memory ran out is none
pub record IsFaulty (s : ServerOf) (request : RequestOf) (fault : RequestFault) : Type 0 where
  pub reported : is_want_of_memory fault ≡ false
  pub faulty : IsRequestFault (tree_of s.definitions) request.query request.operation_name
      (values_of request.variables) fault

abbrev pub refusal_text : List ℕ → Option Place → List ℕ
refusal_text message place = json_text (refusal_json message place)

-- the text refuses a request that has this fault; that memory ran out is none
abbrev pub RefusesFault : RequestFault → List ℕ → Type 0
RefusesFault fault text = (is_want_of_memory fault ≡ false)
    × (text ≡ refusal_text (request_message fault) (request_place fault))

-- gives what is answered where there is no request
abbrev pub not_a_request : List ℕ
not_a_request = refusal_text (codes "not a request") None

-- the text refuses a request over a server: it is that of the first fault, with its message and its place
pub record IsRefusal (s : ServerOf) (request : RequestOf) (text : List ℕ) : Type 0 where
  pub fault : RequestFault
  pub faulty : IsFaulty s request fault
  pub report : text ≡ refusal_text (request_message fault) (request_place fault)

-- a request is refused by this text, or has this plan
abbrev pub PlansRequest : ServerOf → RequestOf → Result PlanParts (String Global) → Type 0
PlansRequest s asked (Err text) = IsRefusal s asked (string_bytes text)
PlansRequest s asked (Ok plan) = IsPlanned s asked (plan_of plan)

-- ---- one operation for many requests

-- The plan is that of some request with the same query and the same name of its operation, of whatever variables.
pub record HasOperation (s : ServerOf) (request : RequestOf) (plan : PlanOf) : Type 0 where
  pub first : RequestOf
  pub planned : IsPlanned s first plan
  pub query : first.query ≡ request.query
  pub name : first.operation_name ≡ request.operation_name

-- where a request has a plan, it is the given one but for its variables
abbrev pub IsPlanAgain : PlanParts → Result PlanParts (String Global) → Type 0
IsPlanAgain given (Err text) = Unit {0}
IsPlanAgain given (Ok plan) = IsSameBut given plan

-- ---- the values of an array

-- the text refuses a value, which is no request or has a first fault
abbrev pub IsRefused : ServerOf → Option RequestOf → List ℕ → Type 0
IsRefused s None text = text ≡ not_a_request
IsRefused s (Some request) text = IsRefusal s request text

-- a value is a request that has this plan
abbrev pub HasPlan : ServerOf → Option RequestOf → PlanOf → Type 0
HasPlan s None plan = ⊥
HasPlan s (Some request) plan = IsPlanned s request plan

-- each value has its refusal, or none and the next plan
abbrev pub PlanValues : ServerOf → List (Option RequestOf)
    → List (Option (List ℕ)) → List PlanOf → Type 0
PlanValues s [] [] [] = Unit {0}
PlanValues s [] [] (plan ∷ plans) = ⊥
PlanValues s [] (refusal ∷ refusals) plans = ⊥
PlanValues s (value ∷ values) [] plans = ⊥
PlanValues s (value ∷ values) (Some text ∷ refusals) plans = IsRefused s value text
    × PlanValues s values refusals plans
PlanValues s (value ∷ values) (None ∷ refusals) [] = ⊥
PlanValues s (value ∷ values) (None ∷ refusals) (plan ∷ plans) = HasPlan s value plan
    × PlanValues s values refusals plans
