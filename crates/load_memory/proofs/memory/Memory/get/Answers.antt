use Rattle.std.proofs.Common.{ap, ◌∙◌, sym, ◌<◌, length}
use Rattle.std.specs.Prelude.{option_map}
use Rattle.load_memory.specs.Keys.{cache_of}
use Rattle.load_memory.specs.Outcomes.{outcome_of}
use Rattle.load_memory.specs.Pairs.{MemoryOf}
use Rattle.load_memory.specs.LoaderMemories.{PartOf, look_in}
use Rattle.load_memory.proofs.LoaderMemoryLaws.{look-part, at_part-read, lookup-cache}
use Rattle.load_memory.proofs.memory.Memory.get.Goals as goal

pub returns : goal.returns
returns c =
    let key = cache_of c.args.key.now in
    let parts = c.self.inside.parts.items in
    let lt : c.args.loader < length parts = rw (c.self.invariant.lined_up, ap (λ (m : MemoryOf). m.modes) c.self.view_is) c.requires in
    let known = look-part parts c.args.loader key ∙ at_part-read parts c.args.loader c.index.result.now key lt ∙ ap (λ (p : PartOf). look_in p.entries key) (sym c.index.ensures) in
    rw (← c.self.view_is) (ap (option_map outcome_of) c.get.ensures.value ∙ lookup-cache c.args.key.now c.index.result.now.entries ∙ sym known)
