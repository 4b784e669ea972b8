use Rattle.std.proofs.Common.{◌≡◌, ◌∙◌, ap, length, None, Err}
use Rattle.std.proofs.lemmas.Result.{IfOk-weaker}
use Rattle.plan_requests.specs.Servers.{ServerOf}
use Rattle.server.proofs.Keeping.{alone-planned}
use Rattle.server.proofs.planned.plan_none.Goals as goal

pub returns : goal.returns
returns c =
    let s = c.args.kept.now.server in
    let size : c.loaders.result ≡ length s.bindings.loaders = c.loaders.ensures ∙ ap (λ (x : ServerOf). length x.bindings.loaders) c.server.ensures.server in
    IfOk-weaker c.alone.result _ _ (λ what add. alone-planned s c.args.most None c.loaders.result (Err c.in_ok-text.text) what size c.in_ok-text.ensures add) c.alone.ensures
