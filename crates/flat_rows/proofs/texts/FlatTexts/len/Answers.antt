use Rattle.std.proofs.Common.{sym}
use Rattle.load_memory.proofs.CellLaws.{length-cut}
use Rattle.flat_rows.proofs.texts.FlatTexts.len.Goals as goal

pub returns : goal.returns
returns c = rw (← c.self.view_is) (sym (length-cut c.self.inside.text.now 0 c.self.inside.ends.now))
