use Rattle.std.proofs.Common.{◌≡◌, ◌∙◌, ap, length, map, arith}
use Rattle.gq_bindings.specs.Seen.{loader_of}
use Rattle.gq_bindings.specs.Tree.{BindingsOf}
use Rattle.host_clients.proofs.NewLoaders.{none-asked, as-many}
use Rattle.host_clients.proofs.opening.open_client.Goals as goal

pub new-requires : goal.new-requires
new-requires c = none-asked c.args.limits.now (map loader_of c.loaders-lines.result.now) c.in_ok-loaders.loaders.items c.in_ok-loaders.ensures.made

pub new-client-requires : goal.new-client-requires
new-client-requires c =
    let e : map loader_of c.loaders-lines.result.now ≡ c.args.server.now.bindings.loaders = c.loaders-lines.ensures ∙ ap (λ (b : BindingsOf). b.loaders) (c.deref.ensures ∙ c.bindings.ensures) in
    let n = as-many c.args.limits.now (map loader_of c.loaders-lines.result.now) c.in_ok-loaders.loaders.items c.in_ok-loaders.ensures.made in
    rw (c.in_ok-clone.ensures.cases, c.in_ok-session.ensures) (omega (arith, ap length e, n))
