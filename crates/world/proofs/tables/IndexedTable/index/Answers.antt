use Rattle.std.proofs.Common.{◌∙◌}
use Rattle.world.proofs.Columns.{on_ok, source-there, source-missing}
use Rattle.world.proofs.tables.IndexedTable.index.Goals as goal

pub returns-in_default-clause-err : goal.returns-in_default-clause-err
returns-in_default-clause-err c =
    let none = rw (c.deref-2.ensures, c.sheet.ensures.value, c.deref.ensures) at c.in_default.ensures in
    rw (← c.self.view_is) (source-missing _ c.args.column.now c.args.mode none)

pub returns-in_ok-try_clone-in-Some-find-clause-ok : goal.returns-in_ok-try_clone-in-Some-find-clause-ok
returns-in_ok-try_clone-in-Some-find-clause-ok c =
    let at = rw (c.deref-2.ensures, c.sheet.ensures.value, c.deref.ensures, c.self.view_is) at c.in-Some.ensures in
    source-there c.args.self.now c.args.column.now c.in-Some.place c.args.mode _ at (c.in_ok-try_clone-in-Some-find.ensures ∙ c.in-Some-find.ensures)

pub returns-in-None-clause-ok : goal.returns-in-None-clause-ok
returns-in-None-clause-ok c =
    let at = rw (c.deref-2.ensures, c.sheet.ensures.value, c.deref.ensures, c.self.view_is) at c.in-Some.ensures in
    on_ok _ _ (λ x made. source-there c.args.self.now c.args.column.now c.in-Some.place c.args.mode _ at made) c.add.result c.add.ensures.ok
