use Rattle.std.proofs.Common.{◌∙◌, sym, ap, is_some}
use Rattle.text_cache.specs.TextCaches.{TextCacheOf}
use Rattle.text_cache.specs.Keeping.{entries_of}
use Rattle.text_cache.proofs.Found.{found-text, text-found}
use Rattle.text_cache.proofs.Keepings.{lookup-entries}
use Rattle.text_cache.proofs.cache.TextCache.contains.Goals as goal

pub returns : goal.returns
returns g c =
    let same = c.contains_key.ensures ∙ sym (ap is_some (lookup-entries c.args.text.now c.self.inside.values.entries)) in
    let cache : TextCacheOf g.row.V.Denot = record { entries = entries_of c.self.inside.values.entries; limits = c.self.inside.limits } in
    rw (← c.self.view_is) (λ h. found-text cache c.args.text.now (sym same ∙ h), λ h. same ∙ text-found cache c.args.text.now h)
