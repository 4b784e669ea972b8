use Rattle.std.proofs.Common.{sym}
use Rattle.load_memory.proofs.RowLaws.{paired-length}
use Rattle.load_memory.proofs.row.Row.width.Goals as goal

pub returns : goal.returns
returns c = rw (← c.self.view_is, c.width.ensures, c.deref.ensures) (sym (paired-length _ _ c.self.invariant.1))
