use Rattle.std.proofs.Common.{◌≡◌, string_bytes}
use Rattle.serde_json.specs.View.{view}
use Rattle.request_line.specs.Seen.{request_of}
use Rattle.plan_requests.specs.Planning.{values_of}
use Rattle.plan_requests.proofs.Requests.{null-view, values-are, is-planned, is-refusal}
use Rattle.plan_requests.proofs.document_cache.DocumentCache.plan.Goals as goal

pub returns-in-Ok : goal.returns-in-Ok
returns-in-Ok c =
    let r = request_of c.args.request.now in
    let values : view c.unwrap_or-values.result.now ≡ values_of r.variables = values-are c.args.request.now.variables _ c.unwrap_or-values.result c.unwrap_or-values.ensures null-view in
    is-planned c.args.self.now.server r c.in-Ok.plan (view c.unwrap_or-values.result.now) values c.in-Ok.ensures.schema c.in-Ok.ensures.bindings c.in-Ok.ensures.ok

pub returns-in-Ok-refusal : goal.returns-in-Ok-refusal
returns-in-Ok-refusal c =
    let r = request_of c.args.request.now in
    let values : view c.unwrap_or-values.result.now ≡ values_of r.variables = values-are c.args.request.now.variables _ c.unwrap_or-values.result c.unwrap_or-values.ensures null-view in
    is-refusal c.args.self.now.server r c.in-Err.fault (view c.unwrap_or-values.result.now) (string_bytes c.in-Ok-refusal.text) values c.in-Err.ensures.err c.in-Ok-refusal.ensures.0 c.in-Ok-refusal.ensures.1
