use Rattle.std.proofs.Common.{◌∙◌, sym}
use Rattle.std.specs.Option.{option_map}
use Rattle.serde_json.specs.View.{view}
use Rattle.plan_requests.proofs.Keepings.{found-kept}
use Rattle.plan_requests.proofs.KeptPlans.{kept-plan, kept-fault}
use Rattle.plan_requests.proofs.document_cache.DocumentCache.plan_query.Goals as goal

pub returns-in-Ok-clause-schema : goal.returns-in-Ok-clause-schema
returns-in-Ok-clause-schema c =
    let is = found-kept c.self.inside.server.definitions c.self.inside.documents c.args.query.now c.in-Some.kept.now c.self.invariant (sym c.in-Some.ensures) in
    rw (← c.self.view_is) (c.in-Ok.ensures.schema ∙ is.definitions)

pub returns-in-Ok-clause-ok : goal.returns-in-Ok-clause-ok
returns-in-Ok-clause-ok c =
    let is = found-kept c.self.inside.server.definitions c.self.inside.documents c.args.query.now c.in-Some.kept.now c.self.invariant (sym c.in-Some.ensures) in
    rw (← c.self.view_is) (kept-plan c.self.inside.server.definitions c.args.query.now c.in-Some.kept.now (option_map (λ name. name.now) c.args.operation_name) (view c.args.variables.now) c.in-Ok.plan is c.in-Ok.ensures.fragments c.in-Ok.ensures.ok)

pub returns-in-Err-clause-err : goal.returns-in-Err-clause-err
returns-in-Err-clause-err c =
    let is = found-kept c.self.inside.server.definitions c.self.inside.documents c.args.query.now c.in-Some.kept.now c.self.invariant (sym c.in-Some.ensures) in
    rw (← c.self.view_is) (kept-fault c.self.inside.server.definitions c.args.query.now c.in-Some.kept.now (option_map (λ name. name.now) c.args.operation_name) (view c.args.variables.now) c.in-Err.fault is c.in-Err.ensures.err)
