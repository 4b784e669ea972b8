use Rattle.std.proofs.Common.{refl}
use Rattle.flat_orders.specs.Written.{lists_of, keys_said}
use Rattle.flat_orders.proofs.lists.KeyLists.clear.Goals as goal

pub invariant_of-self : goal.invariant_of-self
unfolding lists_of keys_said
invariant_of-self c = rw (c.clear.ensures.items, c.clear-2.ensures.items, c.clear-3.ensures) (record { counts_are = refl; shapes_are = refl; texts_are = refl })

pub returns : goal.returns
unfolding lists_of
returns c = rw c.clear.ensures.items refl
