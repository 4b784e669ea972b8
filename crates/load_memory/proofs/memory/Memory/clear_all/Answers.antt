use Rattle.std.proofs.Common.{◌≡◌, ◌-◌, ◌<◌, length, ap, ◌∙◌, arith, refl, None}
use Rattle.std.proofs.lemmas.List.{get_or_default}
use Rattle.std.specs.Prelude.{slice_set}
use Rattle.load_memory.specs.Pairs.{MemoryOf}
use Rattle.load_memory.specs.LoaderMemories.{PartOf, pairs_from}
use Rattle.load_memory.proofs.LoaderMemoryLaws.{part-within, AreParts-changed}
use Rattle.load_memory.proofs.ChangeLaws.{look-changed, AreUnfailed-without}
use Rattle.load_memory.proofs.memory.Memory.clear_all.Goals as goal

pub overflow_sub-self : goal.overflow_sub-self
overflow_sub-self c =
    let parts = c.self.inside.parts.items in
    let i = c.args.loader in
    let lt : i < length parts = rw (c.self.invariant.lined_up, ap (λ (m : MemoryOf). m.modes) c.self.view_is) c.requires in
    let d : PartOf = c.index.result.now in
    omega (arith, c.len.ensures.len, part-within 0 parts i d lt, c.self.invariant.counted, ap (λ (p : PartOf). length p.entries) c.index.ensures)

pub invariant_of-self : goal.invariant_of-self
invariant_of-self c =
    let parts = c.self.inside.parts.items in
    let i = c.args.loader in
    let lt : i < length parts = rw (c.self.invariant.lined_up, ap (λ (m : MemoryOf). m.modes) c.self.view_is) c.requires in
    let x : PartOf = c.clear.new.self in
    let d : PartOf = c.index_mut.result.now in
    let at = c.index_mut.ensures.value in
    let none : length x.entries ≡ 0 = ap length c.clear.ensures.empty in
    let gone = look-changed parts i x d (λ q o. None) lt at (λ q. rw c.clear.ensures.empty refl) in
    AreParts-changed c.self.inside.modes.items parts c.self.inside.count c.self.inside.failed i x d (c.self.inside.count - c.len.result) c.self.inside.failed c.self.invariant lt c.clear.ensures.unique
    (omega (arith, none, c.len.ensures.len, part-within 0 parts i d lt, c.self.invariant.counted, ap (λ (p : PartOf). length p.entries) at, ap (λ (p : PartOf). length p.entries) (c.index.ensures ∙ get_or_default parts i c.index.result.now d lt)))
    (λ none. AreUnfailed-without _ (pairs_from 0 parts) (pairs_from 0 (slice_set parts i x)) (c.self.invariant.unfailed none) gone)

pub returns-clause-pairs : goal.returns-clause-pairs
returns-clause-pairs c = λ l q.
    let parts = c.self.inside.parts.items in
    let i = c.args.loader in
    let lt : i < length parts = rw (c.self.invariant.lined_up, ap (λ (m : MemoryOf). m.modes) c.self.view_is) c.requires in
    let x : PartOf = c.clear.new.self in
    let d : PartOf = c.index_mut.result.now in
    let at = c.index_mut.ensures.value in
    rw (← c.self.view_is) (look-changed parts i x d (λ q o. None) lt at (λ q. rw c.clear.ensures.empty refl) l q)
