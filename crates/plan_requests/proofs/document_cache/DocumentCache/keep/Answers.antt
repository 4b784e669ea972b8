use Rattle.std.proofs.Common.{refl, string_bytes}
use Rattle.request_line.specs.Seen.{request_of}
use Rattle.plan_requests.specs.Planning.{values_of}
use Rattle.plan_requests.proofs.Requests.{is-refusal}
use Rattle.plan_requests.proofs.document_cache.DocumentCache.keep.Goals as goal

pub returns-in_ok-refusal-in-Err-clause-refused : goal.returns-in_ok-refusal-in-Err-clause-refused
returns-in_ok-refusal-in-Err-clause-refused c =
    let r = request_of c.args.request.now in
    is-refusal c.args.self.now.server r c.in-Err.fault (values_of r.variables) (string_bytes c.in_ok-refusal-in-Err.field-0) refl (c.in-Err.ensures.err r.operation_name (values_of r.variables)) c.in_ok-refusal-in-Err.ensures.0 c.in_ok-refusal-in-Err.ensures.1
