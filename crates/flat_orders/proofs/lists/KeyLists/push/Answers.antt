use Rattle.std.proofs.Common.{map, refl}
use Rattle.load_memory.specs.Keys.{key_of}
use Rattle.flat_orders.specs.Written.{lists_of, keys_said}
use Rattle.flat_orders.proofs.Writing.{said-back, written-more, written-said}
use Rattle.flat_orders.proofs.lists.KeyLists.push.Goals as goal

pub invariant_of-self : goal.invariant_of-self
invariant_of-self c =
    let w = written-more _ _ _ _ c.self.invariant (map key_of c.args.keys.now) in
    rw (c.in-Ok.ensures.counts, c.in-Ok.ensures.shapes, c.in-Ok.ensures.texts) (written-said _ _ _ _ w)

pub returns-in-Ok-clause-pushed : goal.returns-in-Ok-clause-pushed
returns-in-Ok-clause-pushed c =
    let w = written-more _ _ _ _ c.self.invariant (map key_of c.args.keys.now) in
    rw (c.in-Ok.ensures.counts, c.in-Ok.ensures.shapes, c.in-Ok.ensures.texts, ← c.self.view_is) (said-back _ _ _ _ w)

pub invariant_of-self-in-Err : goal.invariant_of-self-in-Err
unfolding lists_of keys_said
invariant_of-self-in-Err c = rw (c.clear.ensures.items, c.clear-in-Err.ensures.items, c.clear-in-Err-2.ensures) (record { counts_are = refl; shapes_are = refl; texts_are = refl })

pub returns-in-Err-clause-cleared : goal.returns-in-Err-clause-cleared
unfolding lists_of
returns-in-Err-clause-cleared c = rw c.clear.ensures.items refl
