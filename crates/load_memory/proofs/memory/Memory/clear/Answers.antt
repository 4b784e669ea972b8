use Rattle.std.proofs.Common.{◌-◌, ◌<◌, length, ap, ◌∙◌, sym, arith}
use Rattle.std.specs.Prelude.{slice_set, is_some}
use Rattle.load_memory.specs.Keys.{cache_of}
use Rattle.load_memory.specs.Pairs.{MemoryOf}
use Rattle.load_memory.specs.LoaderMemories.{PartOf, pairs_from}
use Rattle.load_memory.proofs.LoaderMemoryLaws.{part-within, AreParts-changed}
use Rattle.load_memory.proofs.ChangeLaws.{look-one, look-taken, AreUnfailed-without}
use Rattle.load_memory.proofs.memory.Memory.clear.Goals as goal

pub overflow_sub-self : goal.overflow_sub-self
overflow_sub-self c =
    let parts = c.self.inside.parts.items in
    let i = c.args.loader in
    let lt : i < length parts = rw (c.self.invariant.lined_up, ap (λ (m : MemoryOf). m.modes) c.self.view_is) c.requires in
    let x : PartOf = c.take_out-removed.new.part in
    let d : PartOf = c.index_mut.result.now in
    let at = c.index_mut.ensures.value in
    omega (arith, rw c.if-removed.true at c.take_out-removed.ensures.count, part-within 0 parts i d lt, c.self.invariant.counted, ap (λ (p : PartOf). length p.entries) at)

pub invariant_of-self : goal.invariant_of-self
invariant_of-self c =
    let parts = c.self.inside.parts.items in
    let i = c.args.loader in
    let lt : i < length parts = rw (c.self.invariant.lined_up, ap (λ (m : MemoryOf). m.modes) c.self.view_is) c.requires in
    let x : PartOf = c.take_out-removed.new.part in
    let d : PartOf = c.index_mut.result.now in
    let at = c.index_mut.ensures.value in
    let taken = look-taken parts i x d (cache_of c.args.key.now) lt at c.take_out-removed.ensures.pairs in
    AreParts-changed c.self.inside.modes.items parts c.self.inside.count c.self.inside.failed i x d (c.self.inside.count - 1) c.self.inside.failed c.self.invariant lt c.take_out-removed.ensures.own_keys
    (omega (arith, rw c.if-removed.true at c.take_out-removed.ensures.count, part-within 0 parts i d lt, c.self.invariant.counted, ap (λ (p : PartOf). length p.entries) at))
    (λ none. AreUnfailed-without _ (pairs_from 0 parts) (pairs_from 0 (slice_set parts i x)) (c.self.invariant.unfailed none) taken)

pub invariant_of-self-else-removed : goal.invariant_of-self-else-removed
invariant_of-self-else-removed c =
    let parts = c.self.inside.parts.items in
    let i = c.args.loader in
    let lt : i < length parts = rw (c.self.invariant.lined_up, ap (λ (m : MemoryOf). m.modes) c.self.view_is) c.requires in
    let x : PartOf = c.take_out-removed.new.part in
    let d : PartOf = c.index_mut.result.now in
    let at = c.index_mut.ensures.value in
    let taken = look-taken parts i x d (cache_of c.args.key.now) lt at c.take_out-removed.ensures.pairs in
    AreParts-changed c.self.inside.modes.items parts c.self.inside.count c.self.inside.failed i x d c.self.inside.count c.self.inside.failed c.self.invariant lt c.take_out-removed.ensures.own_keys
    (omega (arith, rw c.if-removed.false at c.take_out-removed.ensures.count, part-within 0 parts i d lt, c.self.invariant.counted, ap (λ (p : PartOf). length p.entries) at))
    (λ none. AreUnfailed-without _ (pairs_from 0 parts) (pairs_from 0 (slice_set parts i x)) (c.self.invariant.unfailed none) taken)

pub returns-then-removed-clause-found : goal.returns-then-removed-clause-found
returns-then-removed-clause-found c =
    let parts = c.self.inside.parts.items in
    let i = c.args.loader in
    let lt : i < length parts = rw (c.self.invariant.lined_up, ap (λ (m : MemoryOf). m.modes) c.self.view_is) c.requires in
    let x : PartOf = c.take_out-removed.new.part in
    let d : PartOf = c.index_mut.result.now in
    let at = c.index_mut.ensures.value in
    rw (← c.self.view_is) (c.take_out-removed.ensures.found ∙ ap is_some (sym (look-one parts i d (cache_of c.args.key.now) lt at)))

pub returns-then-removed-clause-pairs : goal.returns-then-removed-clause-pairs
returns-then-removed-clause-pairs c = λ l q.
    let parts = c.self.inside.parts.items in
    let i = c.args.loader in
    let lt : i < length parts = rw (c.self.invariant.lined_up, ap (λ (m : MemoryOf). m.modes) c.self.view_is) c.requires in
    let x : PartOf = c.take_out-removed.new.part in
    let d : PartOf = c.index_mut.result.now in
    let at = c.index_mut.ensures.value in
    rw (← c.self.view_is) (look-taken parts i x d (cache_of c.args.key.now) lt at c.take_out-removed.ensures.pairs l q)

pub returns-else-removed-clause-found : goal.returns-else-removed-clause-found
returns-else-removed-clause-found c =
    let parts = c.self.inside.parts.items in
    let i = c.args.loader in
    let lt : i < length parts = rw (c.self.invariant.lined_up, ap (λ (m : MemoryOf). m.modes) c.self.view_is) c.requires in
    let x : PartOf = c.take_out-removed.new.part in
    let d : PartOf = c.index_mut.result.now in
    let at = c.index_mut.ensures.value in
    rw (← c.self.view_is) (c.take_out-removed.ensures.found ∙ ap is_some (sym (look-one parts i d (cache_of c.args.key.now) lt at)))

pub returns-else-removed-clause-pairs : goal.returns-else-removed-clause-pairs
returns-else-removed-clause-pairs c = λ l q.
    let parts = c.self.inside.parts.items in
    let i = c.args.loader in
    let lt : i < length parts = rw (c.self.invariant.lined_up, ap (λ (m : MemoryOf). m.modes) c.self.view_is) c.requires in
    let x : PartOf = c.take_out-removed.new.part in
    let d : PartOf = c.index_mut.result.now in
    let at = c.index_mut.ensures.value in
    rw (← c.self.view_is) (look-taken parts i x d (cache_of c.args.key.now) lt at c.take_out-removed.ensures.pairs l q)
