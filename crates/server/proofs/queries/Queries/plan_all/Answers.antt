use Rattle.request_line.specs.Seen.{requests_of}
use Rattle.std.proofs.lemmas.Result.{IfOk-weaker}
use Rattle.server.proofs.Asking.{asks-several}
use Rattle.server.proofs.queries.Queries.plan_all.Goals as goal

pub returns-clause-planned : goal.returns-clause-planned
returns-clause-planned c =
    IfOk-weaker c.plan_several-planned.result _ _ (λ what h. asks-several c.args.self.now c.args.most what (requests_of c.args.requests.now) h)
    (rw (c.deref_mut.ensures.value, c.in_ok-kept.ensures.taken) at c.plan_several-planned.ensures.planned)

pub returns-clause-loaders : goal.returns-clause-loaders
returns-clause-loaders c =
    IfOk-weaker c.plan_several-planned.result _ _ (λ what h. h.loaders) (rw (c.deref_mut.ensures.value, c.in_ok-kept.ensures.taken) at c.plan_several-planned.ensures.planned)
