use Rattle.world.proofs.Columns.{pair-there, pair-missing}
use Rattle.world.proofs.tables.IndexedTable.pair_index.Goals as goal

pub returns-in-Ok-clause-ok : goal.returns-in-Ok-clause-ok
returns-in-Ok-clause-ok c =
    pair-there c.args.self.now c.args.column.now c.args.second.now c.args.mode _ (rw (c.deref.ensures, c.self.view_is) at c.in-Ok.ensures.there) (rw (c.deref.ensures, c.self.view_is) at c.in-Ok.ensures.ok)

pub returns-in-Err-NoSuchColumn-clause-err : goal.returns-in-Err-NoSuchColumn-clause-err
returns-in-Err-NoSuchColumn-clause-err c =
    pair-missing c.args.self.now c.args.column.now c.args.second.now c.args.mode (rw (c.in-Err-NoSuchColumn.field-0-is, c.deref.ensures, c.self.view_is) at c.in-Err-NoSuchColumn.ensures.err)
