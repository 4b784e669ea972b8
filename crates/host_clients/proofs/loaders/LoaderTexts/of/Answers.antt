use Rattle.std.proofs.Common.{◌≡◌, ◌∙◌, map, ap}
use Rattle.std.proofs.lemmas.List.{take_all}
use Rattle.gq_bindings.specs.Seen.{loader_of}
use Rattle.gq_bindings.specs.Tree.{BindingsOf}
use Rattle.host_clients.specs.LoaderTexts.{kind_of, texts_of}
use Rattle.host_clients.proofs.Lists.{map-map-next, flat-next}
use Rattle.host_clients.proofs.loaders.LoaderTexts.of.Goals as goal

pub loop-line-preserved : goal.loop-line-preserved
loop-line-preserved c =
    let now = c.loop-line.invariant in let lines = c.loaders-lines.result.now in let i = c.loop-line.line-index in
    record {
      kinds = rw (c.in_ok-push.ensures.items, c.kind_of.ensures, now.kinds) (map-map-next lines i c.line-item.result c.loop-line-test.true c.line-item.is kind_of loader_of);
      texts = rw (c.in_ok-write_texts.ensures, now.texts) (flat-next lines i c.line-item.result c.loop-line-test.true c.line-item.is texts_of loader_of);
    }

pub returns-clause-kinds : goal.returns-clause-kinds
returns-clause-kinds c =
    let e : map loader_of c.loaders-lines.result.now ≡ c.args.server.now.bindings.loaders = c.loaders-lines.ensures ∙ ap (λ (b : BindingsOf). b.loaders) (c.deref.ensures ∙ c.bindings.ensures) in
    rw (← e, ← take_all c.loop-line.line-index c.loaders-lines.result.now c.loop-line-test.false) c.loop-line.invariant.kinds

pub returns-clause-texts : goal.returns-clause-texts
returns-clause-texts c =
    let e : map loader_of c.loaders-lines.result.now ≡ c.args.server.now.bindings.loaders = c.loaders-lines.ensures ∙ ap (λ (b : BindingsOf). b.loaders) (c.deref.ensures ∙ c.bindings.ensures) in
    rw (← e, ← take_all c.loop-line.line-index c.loaders-lines.result.now c.loop-line-test.false) c.loop-line.invariant.texts
