use Rattle.std.proofs.Common.{refl}
use Rattle.std.proofs.lemmas.List.{length-take-le}
use Rattle.load_memory.proofs.PieceLaws.{length-pieces, wide}
use Rattle.load_memory.proofs.sheet.Sheet.len.Goals as goal

pub returns-clause-count : goal.returns-clause-count
returns-clause-count c = rw (← c.self.view_is, length-pieces c.self.inside.width c.self.inside.rows _) refl

pub returns-clause-rectangular : goal.returns-clause-rectangular
returns-clause-rectangular c = rw (← c.self.view_is, length-take-le c.self.inside.width c.self.inside.cells c.self.invariant.header) (wide c.self.inside.width c.self.inside.rows _ c.self.invariant.whole)
