use Rattle.std.proofs.Common.{sym, ◌∙◌}
use Rattle.load_memory.proofs.CellLaws.{length-cut}
use Rattle.load_memory.proofs.sheet.Cells.len.Goals as goal

pub returns : goal.returns
returns c = rw (← c.self.view_is) (c.len.ensures ∙ sym (length-cut _ 0 c.self.inside.ends))
