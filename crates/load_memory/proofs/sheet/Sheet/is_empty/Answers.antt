use Rattle.std.proofs.Common.{refl}
use Rattle.load_memory.proofs.PieceLaws.{length-pieces}
use Rattle.load_memory.proofs.sheet.Sheet.is_empty.Goals as goal

pub returns : goal.returns
returns c = rw (← c.self.view_is, length-pieces c.self.inside.width c.self.inside.rows _) refl
