use Rattle.std.proofs.Common.{◌∙◌, arith}
use Rattle.gq_bindings.specs.Seen.{loader_of}
use Rattle.gq_bindings.proofs.Places.{loader_at}
use Rattle.gq_bindings.proofs.loaders.Loaders.find.Goals as goal

pub index-line-requires : goal.index-line-requires
index-line-requires c =
    let found = loader_at loader_of c.self.inside.lines.items c.args.name.now _ (c.in_ok-number.ensures.value ∙ c.self.invariant c.args.name.now) in
    omega (arith, found.0, c.self.inside.lines.ok.0)

pub returns : goal.returns
returns c =
    let found = loader_at loader_of c.self.inside.lines.items c.args.name.now _ (c.in_ok-number.ensures.value ∙ c.self.invariant c.args.name.now) in
    rw (c.index-line.ensures, ← c.self.view_is) (found.1 c.index-line.result.now)
