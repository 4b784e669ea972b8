use Rattle.std.proofs.Common.{◌-◌, ◌<◌, length, ap, arith}
use Rattle.load_memory.specs.Pairs.{MemoryOf, unless_failed}
use Rattle.load_memory.specs.LoaderMemories.{PartOf}
use Rattle.load_memory.proofs.LoaderMemoryLaws.{part-within, AreParts-changed}
use Rattle.load_memory.proofs.ChangeLaws.{look-changed, AreUnfailed-one}
use Rattle.load_memory.proofs.memory.Memory.drop_failed_at.Goals as goal

pub overflow_sub-self : goal.overflow_sub-self
overflow_sub-self c =
    let parts = c.self.inside.parts.items in
    let i = c.args.loader in
    let lt : i < length parts = rw (c.self.invariant.lined_up, ap (λ (m : MemoryOf). m.modes) c.self.view_is) c.requires in
    let x : PartOf = c.drop_failed_of.new.part in
    let d : PartOf = c.index_mut.result.now in
    let at = c.index_mut.ensures.value in
    omega (arith, c.drop_failed_of.ensures.count, part-within 0 parts i d lt, c.self.invariant.counted, ap (λ (p : PartOf). length p.entries) at)

pub invariant_of-self : goal.invariant_of-self
invariant_of-self c =
    let parts = c.self.inside.parts.items in
    let i = c.args.loader in
    let lt : i < length parts = rw (c.self.invariant.lined_up, ap (λ (m : MemoryOf). m.modes) c.self.view_is) c.requires in
    let x : PartOf = c.drop_failed_of.new.part in
    let d : PartOf = c.index_mut.result.now in
    let at = c.index_mut.ensures.value in
    let done = look-changed parts i x d (λ q o. unless_failed o) lt at c.drop_failed_of.ensures.pairs in
    AreParts-changed c.self.inside.modes.items parts c.self.inside.count c.self.inside.failed i x d (c.self.inside.count - c.drop_failed_of.result) c.self.inside.failed c.self.invariant lt c.drop_failed_of.ensures.own_keys
    (omega (arith, c.drop_failed_of.ensures.count, part-within 0 parts i d lt, c.self.invariant.counted, ap (λ (p : PartOf). length p.entries) at))
    (λ none. AreUnfailed-one parts i x (c.self.invariant.unfailed none) done)

pub returns-clause-pairs : goal.returns-clause-pairs
returns-clause-pairs c = λ l q.
    let parts = c.self.inside.parts.items in
    let i = c.args.loader in
    let lt : i < length parts = rw (c.self.invariant.lined_up, ap (λ (m : MemoryOf). m.modes) c.self.view_is) c.requires in
    let x : PartOf = c.drop_failed_of.new.part in
    let d : PartOf = c.index_mut.result.now in
    let at = c.index_mut.ensures.value in
    rw (← c.self.view_is) (look-changed parts i x d (λ q o. unless_failed o) lt at c.drop_failed_of.ensures.pairs l q)
