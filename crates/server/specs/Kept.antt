-- Definitions of what is kept of a client's requests, and of what requests ask, prepared.
use Rattle.std.specs.Prelude.{◌≡◌, ◌≤◌, ℕ, List, [], ◌∷◌, Option, Some, None, Result, Ok, Err, IfSome, length, String, string_bytes}
use Rattle.std.specs.Arc.{arc_value}
use Rattle.std.specs.declared.alloc.Global.{Global}
use Rattle.std.specs.declared.sync.Arc.{Arc}
use Rattle.gq_check.specs.Plans.{PlanParts, plan_of}
use Rattle.gq_resolve.specs.PreparedPlans.{LimitedPlanOf, within}
use Rattle.request_line.specs.Keys.{IsKey}
use Rattle.request_line.specs.Requests.{RequestOf}
use Rattle.plan_requests.specs.Planning.{HasOperation, HasPlan, IsPlanned, IsRefusal, IsRefused}
use Rattle.plan_requests.specs.Servers.{ServerOf}
use Rattle.text_cache.specs.TextCaches.{TextCacheOf, AreBounded, find, texts_of}
use Rattle.text_cache.specs.declared.cache.CacheLimits.{CacheLimits}

-- the server, the text under which the plan of the last request is kept, and those whose plans are kept
pub record RequestCacheOf : Type 0 where
  pub server : ServerOf
  pub key : List ℕ
  pub texts : List (List ℕ)

-- at most so many plans are kept, whose keys have together at most so many bytes
abbrev pub plan_limits : CacheLimits
plan_limits = record { texts = 2048; bytes = 262144 }

-- the plan is that of a request that has this key
pub record IsPlanAt (s : ServerOf) (key : List ℕ) (plan : PlanParts) : Type 0 where
  pub request : RequestOf
  pub has_key : IsKey key request
  pub planned : IsPlanned s request (plan_of plan)

-- no variable is given, and the plan's operation has none
pub record HasNoVariables (request : RequestOf) (plan : PlanParts) : Type 0 where
  pub given : request.variables ≡ None
  pub values : plan.variables ≡ []
  pub definitions : plan.operation.variables.items ≡ []

-- a plan that many share
abbrev pub SharedPlan : Type 0
SharedPlan = Arc PlanParts Global

-- each plan is that of a request that has its key
abbrev pub AreKept : ServerOf → (List ℕ → Option SharedPlan) → Type 0
AreKept s plans = (key : List ℕ) → IfSome (plans key) (λ plan. IsPlanAt s key (arc_value plan))

-- The plans that are kept are few, and each is that of a request that has its key.
pub record KeepsPlans (s : ServerOf) (plans : TextCacheOf SharedPlan) : Type 0 where
  pub each : AreKept s (find plans)
  pub limits : plans.limits ≡ plan_limits
  pub bounded : AreBounded plan_limits (texts_of plans)

-- what was found under a key is a plan of the operation that each request with this key asks for
abbrev pub IsFoundFor : RequestCacheOf → Option SharedPlan → Type 0
IsFoundFor kept found = (request : RequestOf) → IsKey kept.key request
    → IfSome found (λ plan. HasOperation kept.server request (plan_of (arc_value plan)))

-- what a request asks, prepared: its plan, or the text that refuses it
abbrev pub PreparedRequest : Type 0
PreparedRequest = Result SharedPlan (String Global)

-- a request is refused by this text, or has this plan
abbrev pub PreparesRequest : ServerOf → RequestOf → PreparedRequest → Type 0
PreparesRequest s asked (Err text) = IsRefusal s asked (string_bytes text)
PreparesRequest s asked (Ok plan) = IsPlanned s asked (plan_of (arc_value plan))

-- a value of an array is refused by this text, or has this plan
abbrev pub PreparesValue : ServerOf → Option RequestOf → PreparedRequest → Type 0
PreparesValue s value (Err text) = IsRefused s value (string_bytes text)
PreparesValue s value (Ok plan) = HasPlan s value (plan_of (arc_value plan))

-- its loaders are below this number
abbrev pub NeedsLoaders : ℕ → PreparedRequest → Type 0
NeedsLoaders loaders (Err text) = Unit {0}
NeedsLoaders loaders (Ok plan) = length (plan_of (arc_value plan)).bindings.loaders ≤ loaders

-- the refusal of a request, if it has no plan
abbrev pub refusal_in : PreparedRequest → Option (List ℕ)
refusal_in (Err text) = Some (string_bytes text)
refusal_in (Ok plan) = None

-- its plan within a limit, if it has one
abbrev pub plans_in : Option ℕ → PreparedRequest → List LimitedPlanOf
plans_in most (Err text) = []
plans_in most (Ok plan) = within (arc_value plan) most ∷ []
