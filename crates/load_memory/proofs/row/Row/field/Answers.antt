use Rattle.std.proofs.Common.{◌∙◌, sym, ap}
use Rattle.load_memory.proofs.RowLaws.{paired-length, paired-at}
use Rattle.load_memory.proofs.row.Row.field.Goals as goal

pub field-requires-clause-column : goal.field-requires-clause-column
field-requires-clause-column c = rw c.deref.ensures (rw (← c.self.view_is, paired-length _ _ c.self.invariant.1) at c.requires)

pub returns : goal.returns
returns c =
    let within = rw (← c.self.view_is, paired-length _ _ c.self.invariant.1) at c.requires in
    let at = paired-at _ _ c.args.column c.self.invariant.1 within in
    rw (← c.self.view_is) (rw c.deref.ensures at c.field.ensures ∙ sym (ap (λ p. p.1) at))
