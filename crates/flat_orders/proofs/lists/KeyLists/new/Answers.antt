use Rattle.std.proofs.Common.{refl}
use Rattle.flat_orders.specs.Written.{lists_of, keys_said}
use Rattle.flat_orders.proofs.lists.KeyLists.new.Goals as goal

pub invariant_of-result : goal.invariant_of-result
unfolding lists_of keys_said
invariant_of-result c = rw (c.new.ensures.items, c.new-2.ensures.items, c.new-3.ensures) (record { counts_are = refl; shapes_are = refl; texts_are = refl })

pub returns : goal.returns
unfolding lists_of
returns c = rw c.new.ensures.items refl
