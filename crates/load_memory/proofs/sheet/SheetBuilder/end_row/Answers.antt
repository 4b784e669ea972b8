use Rattle.std.proofs.Common.{arith}
use Rattle.load_memory.proofs.PieceLaws.{length-pieces, HasSheet-row, draft_of-row}
use Rattle.load_memory.proofs.sheet.SheetBuilder.end_row.Goals as goal

pub overflow_add-self : goal.overflow_add-self
overflow_add-self c =
    let room = rw (← c.self.view_is, length-pieces c.self.inside.width c.self.inside.rows _) at c.requires.room in
    omega (arith, room)

pub invariant_of-self : goal.invariant_of-self
invariant_of-self c =
    let room = rw (← c.self.view_is, length-pieces c.self.inside.width c.self.inside.rows _) at c.requires.room in
    HasSheet-row _ _ _ c.self.invariant (rw (← c.self.view_is) at c.requires.filled) room

pub returns : goal.returns
returns c = rw (← c.self.view_is) (draft_of-row _ _ _ c.self.invariant (rw (← c.self.view_is) at c.requires.filled))
