-- Plans of requests that are kept, and what requests ask, prepared.
use Rattle.std.proofs.Common.{◌≡◌, ◌∙◌, ◌≤◌, ℕ, Bool, false, List, [], ◌∷◌, ◌++◌, length, Option, Some, None, Ok, Err, refl, sym, ap, subst, string_bytes, arith}
use Rattle.std.specs.Arc.{arc_value}
use Rattle.std.proofs.lemmas.List.{map-append, append-nil}
use Rattle.gq_bindings.specs.Tree.{BindingsOf}
use Rattle.gq_check.specs.Plans.{PlanOf, PlanParts, plan_of}
use Rattle.gq_resolve.specs.PreparedPlans.{LimitedPlanOf, within}
use Rattle.serde_json.specs.Data.{null}
use Rattle.request_line.specs.Keys.{IsKey}
use Rattle.request_line.specs.Requests.{RequestOf}
use Rattle.request_line.proofs.Keys.{one-operation}
use Rattle.plan_requests.specs.Planning.{HasOperation, IsPlanned, PlanValues, values_of}
use Rattle.plan_requests.specs.Servers.{ServerOf}
use Rattle.plan_requests.proofs.KeptPlans.{plan-again}
use Rattle.plan_requests.proofs.Values.{refused-more, planned-more}
use Rattle.server.specs.Kept.{HasNoVariables, IsPlanAt, NeedsLoaders, PreparedRequest, PreparesRequest, PreparesValue}
use Rattle.server.specs.Planned.{AddsRequest, PlannedOf, PlansAll, PlansEach, nothing_planned}
use Rattle.server.specs.Plans.{AreLimited, plan_and_limit}

-- ---- plans that are kept

-- a plan that is kept under the key of a request is one of the operation that it asks for
pub kept-operation : (s : ServerOf) (q : List ℕ) (request : RequestOf) (plan : PlanParts) → IsKey q request → IsPlanAt s q plan → HasOperation s request (plan_of plan)
kept-operation s q request plan key h =
    let same = one-operation q h.request request h.has_key key in
    record { first = h.request; planned = h.planned; query = same.0; name = same.1 }

-- ---- what requests ask

-- the loaders of a plan over a server are those of its bindings
planned-needs : (s : ServerOf) (plan : PlanOf) (loaders : ℕ) → loaders ≡ length s.bindings.loaders → plan.bindings ≡ s.bindings → length plan.bindings.loaders ≤ loaders
planned-needs s plan loaders e same = omega (arith, e, ap (λ (b : BindingsOf). length b.loaders) same)

pub prepared-needs : (s : ServerOf) (request : RequestOf) (asked : PreparedRequest) (loaders : ℕ) → loaders ≡ length s.bindings.loaders → PreparesRequest s request asked → NeedsLoaders loaders asked
prepared-needs s request (Err text) loaders e h = tt
prepared-needs s request (Ok plan) loaders e h = planned-needs s (plan_of (arc_value plan)) loaders e h.bindings

pub value-needs : (s : ServerOf) (value : Option RequestOf) (asked : PreparedRequest) (loaders : ℕ) → loaders ≡ length s.bindings.loaders → PreparesValue s value asked → NeedsLoaders loaders asked
value-needs s value (Err text) loaders e h = tt
value-needs s None (Ok plan) loaders e h = absurd h
value-needs s (Some request) (Ok plan) loaders e h = planned-needs s (plan_of (arc_value plan)) loaders e h.bindings

-- a request asks what the value asks that it is
pub request-prepares : (s : ServerOf) (request : RequestOf) (asked : PreparedRequest) → PreparesRequest s request asked → PreparesValue s (Some request) asked
request-prepares s request (Err text) h = h
request-prepares s request (Ok plan) h = h

-- plans within a limit, and one more
limited-more : (most : Option ℕ) (plans : List PlanOf) (limited : List LimitedPlanOf) (plan : PlanParts) → AreLimited most plans limited → AreLimited most (plans ++ plan_of plan ∷ []) (limited ++ within plan most ∷ [])
limited-more most plans limited plan are =
    map-append plan_and_limit limited (within plan most ∷ [])
    ∙ ap (λ ps. ps ++ (plan_of plan, most) ∷ []) are
    ∙ sym (map-append (λ (p : PlanOf). (p, most)) plans (plan_of plan ∷ []))

module _ (s : ServerOf) (most : Option ℕ) where
  -- one value more is planned
  pub each-more : (values : List (Option RequestOf)) (value : Option RequestOf) (old new : PlannedOf) (asked : PreparedRequest) → PlansEach s most values old → PreparesValue s value asked
      → AddsRequest most asked old new → PlansEach s most (values ++ value ∷ []) new
  each-more values value old new (Err text) h is add = record {
    plans = h.plans;
    limited = subst (AreLimited most h.plans) (sym (add.plans ∙ append-nil old.plans)) h.limited;
    each = subst (λ rs. PlanValues s (values ++ value ∷ []) rs h.plans) (sym add.refusals) (refused-more s value values old.refusals h.plans (string_bytes text) h.each is);
  }
  each-more values value old new (Ok plan) h is add =
      let more = h.plans ++ plan_of (arc_value plan) ∷ [] in
      record {
        plans = more;
        limited = subst (AreLimited most more) (sym add.plans) (limited-more most h.plans old.plans (arc_value plan) h.limited);
        each = subst (λ rs. PlanValues s (values ++ value ∷ []) rs more) (sym add.refusals) (planned-more s value values old.refusals h.plans (plan_of (arc_value plan)) h.each is);
      }

  -- nothing is planned
  pub none-planned : (many : Bool) (loaders : ℕ) → PlansEach s most [] (nothing_planned many loaders)
  none-planned many loaders = record { plans = []; limited = refl; each = tt }

  -- one value is planned alone
  pub alone-planned : (value : Option RequestOf) (loaders : ℕ) (asked : PreparedRequest) (what : PlannedOf) → loaders ≡ length s.bindings.loaders → PreparesValue s value asked
      → AddsRequest most asked (nothing_planned false loaders) what → PlansAll s most (value ∷ []) false what
  alone-planned value loaders asked what e is add = record {
    each = each-more [] value (nothing_planned false loaders) what asked (none-planned false loaders) is add;
    many_is = add.many;
    loaders = add.loaders ∙ e;
  }

-- where there are no variables, a kept plan is that of each request of its operation
pub kept-itself : (s : ServerOf) (r : RequestOf) (p : PlanParts) → HasOperation s r (plan_of p) → HasNoVariables r p → IsPlanned s r (plan_of p)
kept-itself s r p h none =
    plan-again s r p p h null (sym (ap values_of none.given)) (record { definitions = refl; bindings = refl; operation = refl; fragments = refl })
    (rw (none.values, none.definitions) refl)
