use Rattle.std.proofs.Common.{◌≡◌, ◌+◌, ◌<◌, length, ap, ◌∙◌, sym, true, false, arith, refl}
use Rattle.std.specs.Prelude.{not, slice_set}
use Rattle.std.proofs.lemmas.Result.{err_from_is_err_and}
use Rattle.load_memory.specs.Keys.{cache_of}
use Rattle.load_memory.specs.Outcomes.{known, item_of}
use Rattle.load_memory.specs.Pairs.{MemoryOf, PairOf, look}
use Rattle.load_memory.specs.LoaderMemories.{PartOf, pairs_from}
use Rattle.load_memory.proofs.Looks.{primed-present}
use Rattle.load_memory.proofs.LoaderMemoryLaws.{look-found, pairs-kept, pairs-put, AreParts-kept, AreParts-changed, SomeIff-at}
use Rattle.load_memory.proofs.ChangeLaws.{AreUnfailed-put}
use Rattle.load_memory.proofs.memory.Memory.prime.Goals as goal

pub returns-then-contains_key-clause-found : goal.returns-then-contains_key-clause-found
returns-then-contains_key-clause-found c =
    let lt : c.args.loader < length c.self.inside.parts.items = rw (c.self.invariant.lined_up, ap (λ (m : MemoryOf). m.modes) c.self.view_is) c.requires in
    let here = look-found c.self.inside.parts.items c.args.loader c.index.result.now c.args.key true lt c.index.ensures (sym c.if-contains_key.true ∙ c.contains_key.ensures) in
    rw (← c.self.view_is) (sym (ap not here))

pub returns-then-contains_key-clause-pairs : goal.returns-then-contains_key-clause-pairs
returns-then-contains_key-clause-pairs c = λ l q.
    let lt : c.args.loader < length c.self.inside.parts.items = rw (c.self.invariant.lined_up, ap (λ (m : MemoryOf). m.modes) c.self.view_is) c.requires in
    let here = look-found c.self.inside.parts.items c.args.loader c.index.result.now c.args.key true lt c.index.ensures (sym c.if-contains_key.true ∙ c.contains_key.ensures) in
    let p : PairOf = record { loader = c.args.loader; key = cache_of c.args.key; outcome = known (item_of c.args.item) } in
    rw (← c.self.view_is) (sym (ap (λ ps. look ps l q) (primed-present (pairs_from 0 c.self.inside.parts.items) p here)))

pub invariant_of-self : goal.invariant_of-self
invariant_of-self c =
    let lt : c.args.loader < length c.self.inside.parts.items = rw (c.self.invariant.lined_up, ap (λ (m : MemoryOf). m.modes) c.self.view_is) c.requires in
    AreParts-kept c.self.inside.modes.items c.self.inside.parts.items c.self.inside.count c.self.inside.failed c.args.loader c.put_absent.new.part c.index_mut.result.now c.self.invariant lt (c.in_err-put_absent.ensures.kept ∙ ap (λ p. p.entries) c.index_mut.ensures.value)

pub returns-in_err-put_absent-clause-kept : goal.returns-in_err-put_absent-clause-kept
returns-in_err-put_absent-clause-kept c =
    let lt : c.args.loader < length c.self.inside.parts.items = rw (c.self.invariant.lined_up, ap (λ (m : MemoryOf). m.modes) c.self.view_is) c.requires in
    let p = err_from_is_err_and c.from_residual-in_err-put_absent.result c.from_residual-in_err-put_absent.ensures.1 in
    rw p.1 (rw (← c.self.view_is) (ap (λ ps. record { modes = c.self.inside.modes.items; pairs = ps }) (pairs-kept 0 c.self.inside.parts.items c.args.loader c.put_absent.new.part c.index_mut.result.now (c.in_err-put_absent.ensures.kept ∙ ap (λ p. p.entries) c.index_mut.ensures.value) lt)))

pub invariant_of-self-2 : goal.invariant_of-self-2
invariant_of-self-2 c =
    let parts = c.self.inside.parts.items in
    let lt : c.args.loader < length parts = rw (c.self.invariant.lined_up, ap (λ (m : MemoryOf). m.modes) c.self.view_is) c.requires in
    let more : c.in_ok-count.count ≡ c.self.inside.count + 1 = SomeIff-at c.checked_add.result _ _ _ c.in_ok-count.ensures.ok_part c.checked_add.ensures in
    let e = c.in_ok-put_absent.ensures in
    let x : PartOf = c.put_absent.new.part in
    let d : PartOf = c.index_mut.result.now in
    let p : PairOf = record { loader = c.args.loader; key = cache_of c.args.key; outcome = known (item_of c.args.item) } in
    let absent = look-found parts c.args.loader c.index.result.now c.args.key false lt c.index.ensures (sym c.if-contains_key.false ∙ c.contains_key.ensures) in
    let put = pairs-put parts c.args.loader x d (cache_of c.args.key) (known (item_of c.args.item)) lt c.index_mut.ensures.value absent (rw c.from.ensures at e.put.pairs) in
    AreParts-changed c.self.inside.modes.items parts c.self.inside.count c.self.inside.failed c.args.loader x d c.in_ok-count.count c.self.inside.failed c.self.invariant lt e.own_keys
    (omega (arith, more, e.put.count, ap (λ (p : PartOf). length p.entries) c.index_mut.ensures.value))
    (λ none. AreUnfailed-put (pairs_from 0 parts) p (item_of c.args.item) (pairs_from 0 (slice_set parts c.args.loader x)) (c.self.invariant.unfailed none) absent refl put)

pub returns-clause-found : goal.returns-clause-found
returns-clause-found c =
    let lt : c.args.loader < length c.self.inside.parts.items = rw (c.self.invariant.lined_up, ap (λ (m : MemoryOf). m.modes) c.self.view_is) c.requires in
    let absent = look-found c.self.inside.parts.items c.args.loader c.index.result.now c.args.key false lt c.index.ensures (sym c.if-contains_key.false ∙ c.contains_key.ensures) in
    rw (← c.self.view_is) (sym (ap not absent))

pub returns-clause-pairs : goal.returns-clause-pairs
returns-clause-pairs c = λ l q.
    let parts = c.self.inside.parts.items in
    let key = cache_of c.args.key in
    let lt : c.args.loader < length parts = rw (c.self.invariant.lined_up, ap (λ (m : MemoryOf). m.modes) c.self.view_is) c.requires in
    let absent = look-found parts c.args.loader c.index.result.now c.args.key false lt c.index.ensures (sym c.if-contains_key.false ∙ c.contains_key.ensures) in
    rw (← c.self.view_is) (pairs-put parts c.args.loader c.put_absent.new.part c.index_mut.result.now key (known (item_of c.args.item)) lt c.index_mut.ensures.value absent (rw c.from.ensures at c.in_ok-put_absent.ensures.put.pairs) l q)
