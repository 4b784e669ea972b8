use Rattle.gq_check.specs.Plans.{kept_document}
use Rattle.plan_requests.proofs.Keepings.{added-text, texts-stay}
use Rattle.plan_requests.proofs.document_cache.DocumentCache.cache_query.Goals as goal
use Rattle.plan_requests.proofs.document_cache.DocumentCache.cache_query.Goals.{in-Ok-insert, in-Err-insert}

pub returns-in-Err-clause-err : goal.returns-in-Err-clause-err
returns-in-Err-clause-err c = λ name given. rw (← c.self.view_is) (c.in-Err.ensures.err name given)

pub returns-clause-kept : goal.returns-clause-kept
returns-clause-kept c =
    elim c.match-insert.branch [
      | in-Ok-insert w ↦ rw w.result-is (added-text c.self.inside.server.definitions c.self.inside.documents c.insert.new.self c.args.query.now c.in-Ok.kept c.self.invariant w.in-Ok-insert.ensures.added)
      | in-Err-insert w ↦ rw w.result-is tt
    ]

pub returns-clause-stay : goal.returns-clause-stay
returns-clause-stay c =
    λ room text h.
    let fits = rw (← c.self.view_is) at room in
    let was = rw (← c.self.view_is) at h in
    texts-stay c.self.inside.server.definitions c.self.inside.documents c.insert.new.self c.args.query.now text c.self.invariant (λ among. cc (c.contains.ensures.1 among)) c.insert.ensures.stay fits was

pub returns-clause-err : goal.returns-clause-err
returns-clause-err c =
    λ name given.
    elim c.match-insert.branch [
      | in-Ok-insert w ↦ rw w.result-is tt
      | in-Err-insert w ↦ rw w.result-is (record { document = kept_document c.in-Ok.kept; says = c.in-Ok.ensures.ok.says; fault = tt })
    ]
