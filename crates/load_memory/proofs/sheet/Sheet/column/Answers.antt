use Rattle.load_memory.proofs.sheet.Sheet.column.Goals as goal

pub position-requires : goal.position-requires
position-requires c = c.self.invariant.header

pub returns : goal.returns
returns c = rw (← c.self.view_is) c.position.ensures
