use Rattle.request_line.specs.Seen.{request_of}
use Rattle.std.proofs.lemmas.Result.{IfOk-weaker}
use Rattle.server.proofs.Asking.{asks-one}
use Rattle.server.proofs.queries.Queries.plan.Goals as goal

pub returns-clause-planned : goal.returns-clause-planned
returns-clause-planned c =
    IfOk-weaker c.plan_one-planned.result _ _ (λ what h. asks-one c.args.self.now c.args.most what (request_of c.args.request.now) h)
    (rw (c.deref_mut.ensures.value, c.in_ok-kept.ensures.taken) at c.plan_one-planned.ensures.planned)

pub returns-clause-loaders : goal.returns-clause-loaders
returns-clause-loaders c =
    IfOk-weaker c.plan_one-planned.result _ _ (λ what h. h.loaders) (rw (c.deref_mut.ensures.value, c.in_ok-kept.ensures.taken) at c.plan_one-planned.ensures.planned)
