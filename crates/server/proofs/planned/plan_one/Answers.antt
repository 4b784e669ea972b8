use Rattle.std.proofs.Common.{◌≡◌, ◌∙◌, ap, length, Some}
use Rattle.std.proofs.lemmas.Result.{IfOk-weaker}
use Rattle.plan_requests.specs.Servers.{ServerOf}
use Rattle.request_line.specs.Seen.{request_of}
use Rattle.server.proofs.Keeping.{alone-planned, prepared-needs, request-prepares}
use Rattle.server.proofs.planned.plan_one.Goals as goal

pub alone-requires : goal.alone-requires
alone-requires c =
    let s = c.args.kept.now.server in
    let size : c.loaders.result ≡ length s.bindings.loaders = c.loaders.ensures ∙ ap (λ (x : ServerOf). length x.bindings.loaders) (c.server.ensures.server ∙ c.prepare.ensures.server) in
    prepared-needs s (request_of c.args.request.now) c.in_ok-prepared.prepared c.loaders.result size c.in_ok-prepared.ensures.prepared

pub returns-clause-planned : goal.returns-clause-planned
returns-clause-planned c =
    let s = c.args.kept.now.server in
    let r = request_of c.args.request.now in
    let asked = c.in_ok-prepared.prepared in
    let size : c.loaders.result ≡ length s.bindings.loaders = c.loaders.ensures ∙ ap (λ (x : ServerOf). length x.bindings.loaders) (c.server.ensures.server ∙ c.prepare.ensures.server) in
    IfOk-weaker c.alone.result _ _ (λ what add. alone-planned s c.args.most (Some r) c.loaders.result asked what size (request-prepares s r asked c.in_ok-prepared.ensures.prepared) add) c.alone.ensures
