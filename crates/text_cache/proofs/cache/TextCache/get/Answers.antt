use Rattle.std.proofs.Common.{◌∙◌, sym}
use Rattle.text_cache.proofs.Keepings.{lookup-entries}
use Rattle.text_cache.proofs.cache.TextCache.get.Goals as goal

pub returns : goal.returns
returns g c = rw (← c.self.view_is) (c.get.ensures.value ∙ sym (lookup-entries c.args.text.now c.self.inside.values.entries))
