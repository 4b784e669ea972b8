-- Lemmas on what a request asks, from its parts.
use Rattle.std.proofs.Common.{◌≡◌, ℕ, false, List, Option, Some, None, sym, ap, subst, ◌∙◌}
use Rattle.std.specs.Borrow.{Bor}
use Rattle.std.specs.Option.{option_map, unwrap_or}
use Rattle.serde_json.specs.Data.{Data, null}
use Rattle.serde_json.specs.View.{view, view_step}
use Rattle.serde_json.specs.declared.value.Value.{Value, fold-roll-Value}
use Rattle.serde_json.specs.declared.value.Value.TheOpen.{Value-F}
use Rattle.serde_json.specs.declared.value.Value.TheVariants as value
use Rattle.gq_schema.specs.Types.{tree_of}
use Rattle.gq_check.specs.Planned.{IsPlan}
use Rattle.gq_check.specs.Plans.{PlanOf, PlanParts, plan_of}
use Rattle.gq_check.specs.Prepared.{prepared}
use Rattle.gq_check.specs.Verdict.{IsValid}
use Rattle.request_line.specs.Requests.{RequestOf}
use Rattle.plan_requests.specs.declared.fault.RequestFault.{RequestFault}
use Rattle.plan_requests.specs.Planning.{values_of, IsPlanned, IsRefusal, refusal_text}
use Rattle.plan_requests.specs.Requests.{IsPlanOf, IsRequestFault, is_want_of_memory, request_message, request_place}
use Rattle.plan_requests.specs.Servers.{ServerOf}

pub null-view : view value.Null ≡ null
null-view = ap view (sym value.rolls-Null) ∙ fold-roll-Value Data view_step Value-F.Null

pub values-are : (variables : Option (Bor Value)) (none chosen : Bor Value) → chosen ≡ unwrap_or variables none → view none.now ≡ null → view chosen.now ≡ values_of (option_map (λ v. view v.now) variables)
values-are None none chosen is e = ap (λ v. view v.now) is ∙ e
values-are (Some v) none chosen is e = ap (λ v. view v.now) is

pub is-planned : (s : ServerOf) (r : RequestOf) (plan : PlanParts) (given : Data) → given ≡ values_of r.variables → plan.definitions ≡ s.definitions → plan.bindings ≡ s.bindings
    → IsPlanOf (tree_of s.definitions) r.query r.operation_name given (plan_of plan) → IsPlanned s r (plan_of plan)
is-planned s r plan given v d b is =
    record { definitions = ap tree_of d; bindings = b; planned = subst (λ z. IsPlanOf (tree_of s.definitions) r.query r.operation_name z (plan_of plan)) v is }

pub is-refusal : (s : ServerOf) (r : RequestOf) (fault : RequestFault) (given : Data) (text : List ℕ) → given ≡ values_of r.variables → IsRequestFault (tree_of s.definitions) r.query r.operation_name given fault
    → is_want_of_memory fault ≡ false → text ≡ refusal_text (request_message fault) (request_place fault) → IsRefusal s r text
is-refusal s r fault given text v is some report = record {
  fault = fault;
  faulty = record { reported = some; faulty = subst (λ z. IsRequestFault (tree_of s.definitions) r.query r.operation_name z fault) v is };
  report = report;
}

-- the plan of a request is of a valid document
pub planned-valid : (s : ServerOf) (r : RequestOf) (p : PlanOf) → IsPlanned s r p → IsPlan p
planned-valid s r p h = record {
  document = h.planned.document;
  valid = subst (λ ds. IsValid ds h.planned.document) (sym h.definitions) h.planned.valid;
  same = h.planned.fragments;
  name = r.operation_name;
  given = values_of r.variables;
  prepares = ap (λ ds. prepared ds h.planned.document.operations r.operation_name (values_of r.variables)) h.definitions ∙ h.planned.prepared;
}
