use Rattle.std.proofs.Common.{◌∙◌, ap, length}
use Rattle.load_memory.proofs.PieceLaws.{adds-column}
use Rattle.load_memory.proofs.sheet.SheetBuilder.add_column.Goals as goal

pub invariant_of-self-2 : goal.invariant_of-self-2
invariant_of-self-2 c =
    let size = c.len-self-inside.ensures ∙ ap length c.in_ok-push.ensures.ok in
    let adds = adds-column c.self.inside.width c.self.inside.rows c.self.inside.cells c.args.name.now _ c.self.invariant (rw (← c.self.view_is) at c.requires.no_row) (rw (← c.self.view_is) at c.requires.no_field) size in
    rw c.in_ok-push.ensures.ok adds.kept

pub returns-clause-ok : goal.returns-clause-ok
returns-clause-ok c =
    let size = c.len-self-inside.ensures ∙ ap length c.in_ok-push.ensures.ok in
    let adds = adds-column c.self.inside.width c.self.inside.rows c.self.inside.cells c.args.name.now _ c.self.invariant (rw (← c.self.view_is) at c.requires.no_row) (rw (← c.self.view_is) at c.requires.no_field) size in
    rw (c.in_ok-push.ensures.ok, ← c.self.view_is) adds.draft
