use Rattle.std.proofs.Common.{refl, arith, lit<}
use Rattle.load_memory.specs.Cells.{pieces, beyond, HasPieces}
use Rattle.load_memory.proofs.sheet.SheetBuilder.new.Goals as goal

pub invariant_of-result : goal.invariant_of-result
unfolding HasPieces
invariant_of-result c = record { header = omega arith; whole = tt; count = lit< tt }

pub returns : goal.returns
unfolding pieces beyond
returns c = rw c.new.ensures refl
