use Rattle.std.proofs.Common.{refl}
use Rattle.load_memory.specs.Cells.{cut, IsCut}
use Rattle.flat_orders.proofs.texts.TextBuffer.clear.Goals as goal

pub invariant_of-self : goal.invariant_of-self
unfolding IsCut
invariant_of-self c = rw (c.clear-2.ensures.items, c.clear.ensures.bytes) refl

pub returns : goal.returns
unfolding cut
returns c = rw c.clear-2.ensures.items refl
