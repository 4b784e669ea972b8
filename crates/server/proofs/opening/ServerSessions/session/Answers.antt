use Rattle.std.proofs.Common.{◌≡◌, ◌∙◌, ◌++◌, ◌∷◌, [], ◌+◌, List, take, map, length, add-one, ap, subst, refl, arith}
use Rattle.std.proofs.lemmas.List.{length-map, take_all}
use Rattle.gq_bindings.specs.Seen.{loader_of}
use Rattle.gq_bindings.specs.Tree as bindings
use Rattle.load_queue.specs.Loaders.{LoaderOf}
use Rattle.server.specs.Opening.{new_loader}
use denote.Param.Always.{mut_next}
use Rattle.plan_requests.proofs.Values.{taken-more}
use Rattle.server.proofs.Opened.{OpenedTo, opened-more, opened-all, opened-many, opened-quiet}
use Rattle.server.proofs.opening.ServerSessions.session.Goals as goal

pub loop-line-preserved : goal.loop-line-preserved
loop-line-preserved g c =
    let lines = c.loaders-lines.result.now in
    let i = c.loop-line.line-index in
    let line = c.line-item.result in
    let loader : LoaderOf g.row.S.Denot = c.in_ok-loader.loader in
    let taken : take (i + 1) (map loader_of lines) ≡ take i (map loader_of lines) ++ loader_of line ∷ [] = rw add-one (taken-more loader_of lines i line c.loop-line-test.true c.line-item.is) in
    let pushed : c.push.new.self.items ≡ c.loop-line.loaders.items ++ loader ∷ [] = rw c.if-is_err.ensures.negation at c.push.ensures.items in
    let made : loader ≡ new_loader loader.identity c.args.max_batch (loader_of line) c.source-source.result = c.in_ok-loader.ensures.made ∙ rw (c.as_str.ensures.value, c.mode_of.ensures) refl in
    let more = opened-more g.F.FnMut c.args.max_batch (take i (map loader_of lines)) c.loop-line.loaders.items c.args.source c.loop-line.source c.source-source.new.self _ c.source-source.result loader
    c.loop-line.invariant.opened c.source-source.ensures made in
    record {
      callable = mut_next g.F.FnMut c.loop-line.source (_, tt) c.source-source.result c.source-source.new.self c.source-source.new.self c.source-source.ensures refl c.loop-line.invariant.callable;
      lines = c.loop-line.invariant.lines;
      opened = rw (taken, pushed) more;
    }

pub new-requires-2 : goal.new-requires-2
new-requires-2 g c =
    opened-quiet g.F.FnMut c.args.max_batch (take c.loop-line.line-index (map loader_of c.loaders-lines.result.now)) c.loop-line.loaders.items c.args.source c.loop-line.source c.loop-line.invariant.opened

pub new-requires-in-Ok : goal.new-requires-in-Ok
new-requires-in-Ok g c =
    let lines = c.loaders-lines.result.now in
    let all : take c.loop-line.line-index (map loader_of lines) ≡ c.args.self.now.bindings.loaders =
    take_all c.loop-line.line-index (map loader_of lines) (omega (arith, length-map lines loader_of, c.loop-line-test.false)) ∙ c.loop-line.invariant.lines in
    let many = opened-many g.F.FnMut c.args.max_batch (take c.loop-line.line-index (map loader_of lines)) c.loop-line.loaders.items c.args.source c.loop-line.source c.loop-line.invariant.opened in
    let most : length c.loop-line.loaders.items ≡ length c.args.self.now.bindings.loaders = many ∙ ap length all in
    let same : c.in_ok-server.server ≡ c.args.self.now = grind arith in
    rw (same, c.in-Ok.ensures) (omega (arith, most))

pub returns-in-Ok-clause-loaders : goal.returns-in-Ok-clause-loaders
returns-in-Ok-clause-loaders g c =
    let lines = c.loaders-lines.result.now in
    let all : take c.loop-line.line-index (map loader_of lines) ≡ c.args.self.now.bindings.loaders =
    take_all c.loop-line.line-index (map loader_of lines) (omega (arith, length-map lines loader_of, c.loop-line-test.false)) ∙ c.loop-line.invariant.lines in
    let opened = subst (λ (ls : List bindings.LoaderOf). OpenedTo g.F.FnMut c.args.max_batch c.args.source ls c.loop-line.loaders.items c.loop-line.source) all c.loop-line.invariant.opened in
    rw (c.new-in-Ok.ensures, c.in-Ok.ensures) (opened-all g.F.FnMut c.args.max_batch c.args.self.now.bindings.loaders c.loop-line.loaders.items c.args.source c.loop-line.source opened)
