use Rattle.std.proofs.Common.{refl}
use Rattle.load_memory.specs.Cells.{cut, IsCut}
use Rattle.flat_orders.proofs.texts.TextBuffer.new.Goals as goal

pub invariant_of-result : goal.invariant_of-result
unfolding IsCut
invariant_of-result c = rw (c.new-2.ensures.items, c.new.ensures.bytes) refl

pub returns : goal.returns
unfolding cut
returns c = rw c.new-2.ensures.items refl
