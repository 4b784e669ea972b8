use Rattle.std.specs.Prelude.{option_map}
use Rattle.serde_json.specs.View.{view}
use Rattle.request_line.specs.Seen.{request_of}
use Rattle.host_clients.specs.Asked.{AreVariables}
use Rattle.host_clients.specs.Texts.{flat_parts}
use Rattle.host_clients.proofs.Asking.{request-planned, seen-copied}
use Rattle.host_clients.proofs.asked.FlatRequest.plan.Goals as goal

pub returns-in-Some-request-clause-planned : goal.returns-in-Some-request-clause-planned
returns-in-Some-request-clause-planned c =
    let read : AreVariables c.args.self.now.variables.now (option_map view c.in-Some.variables) = rw c.in-Some.is at c.in_ok-variables.ensures in
    let own : AreVariables c.args.self.now.variables.now (option_map (λ v. view v.now) c.as_ref.result) =
    rw (← seen-copied c.as_ref.result c.in-Some.variables c.as_ref.ensures.value) read in
    request-planned c.args.queries.now c.args.most c.plan.result (flat_parts c.args.self.now) (request_of c.in-Some-request.request) (c.in-Some-request.ensures.some own) c.plan.ensures.planned
