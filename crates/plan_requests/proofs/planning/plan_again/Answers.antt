use Rattle.std.proofs.Common.{◌≡◌, string_bytes}
use Rattle.serde_json.specs.View.{view}
use Rattle.request_line.specs.Seen.{request_of}
use Rattle.plan_requests.specs.declared.fault.RequestFault.TheVariants as fault
use Rattle.plan_requests.specs.Planning.{values_of}
use Rattle.plan_requests.proofs.KeptPlans.{plan-again, fault-again}
use Rattle.plan_requests.proofs.Requests.{null-view, values-are, is-refusal}
use Rattle.plan_requests.proofs.planning.plan_again.Goals as goal

pub returns-in-Ok-clause-plans : goal.returns-in-Ok-clause-plans
returns-in-Ok-clause-plans c =
    λ s h.
    let r = request_of c.args.request.now in
    let values : view c.unwrap_or-given.result.now ≡ values_of r.variables = values-are c.args.request.now.variables _ c.unwrap_or-given.result c.unwrap_or-given.ensures null-view in
    plan-again s r c.args.plan.now c.in-Ok.plan h (view c.unwrap_or-given.result.now) values c.in-Ok.ensures.same c.in-Ok.ensures.ok

pub returns-in-Ok-refusal-clause-plans : goal.returns-in-Ok-refusal-clause-plans
returns-in-Ok-refusal-clause-plans c =
    λ s h.
    let r = request_of c.args.request.now in
    let values : view c.unwrap_or-given.result.now ≡ values_of r.variables = values-are c.args.request.now.variables _ c.unwrap_or-given.result c.unwrap_or-given.ensures null-view in
    is-refusal s r (fault.Prepare c.in-Err.fault) (view c.unwrap_or-given.result.now) (string_bytes c.in-Ok-refusal.text) values (fault-again s r c.args.plan.now c.in-Err.fault h (view c.unwrap_or-given.result.now) c.in-Err.ensures.err) c.in-Ok-refusal.ensures.0 c.in-Ok-refusal.ensures.1
