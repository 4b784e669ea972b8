use Rattle.std.proofs.Common.{◌∙◌, ap}
use Rattle.gq_bindings.specs.Seen.{loader_of}
use Rattle.gq_bindings.specs.Tree.{BindingsOf}
use Rattle.host_clients.proofs.Lines.{line-at, within-only}
use Rattle.host_clients.proofs.loaders.line_of.Goals as goal

pub returns : goal.returns
returns c =
    let lines = c.loaders.result.now in let found = c.get.ensures.lookup in
    let are = c.loaders.ensures ∙ ap (λ (b : BindingsOf). b.loaders) (c.deref.ensures ∙ c.bindings.ensures) in
    line-at loader_of lines c.args.server.now.bindings.loaders c.args.loader c.get.result are found.1 (within-only lines c.args.loader _ c.get.result found.3)
