use Rattle.std.proofs.Common.{inr}
use Rattle.query_run.proofs.running.serve_requests.Goals as goal

pub returns-in-Some-clause-written : goal.returns-in-Some-clause-written
returns-in-Some-clause-written g c = inr (c.in-Some.path, c.in-Some.is, rw c.as_str.ensures.value at c.trace_requests.ensures.others)
