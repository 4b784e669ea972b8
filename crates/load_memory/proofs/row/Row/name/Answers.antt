use Rattle.std.proofs.Common.{◌∙◌, sym, ap}
use Rattle.load_memory.proofs.RowLaws.{paired-length, paired-at}
use Rattle.load_memory.proofs.row.Row.name.Goals as goal

pub name-requires : goal.name-requires
name-requires c = rw c.deref.ensures (rw (← c.self.view_is, paired-length _ _ c.self.invariant.1) at c.requires)

pub returns : goal.returns
returns c =
    let within = rw (← c.self.view_is, paired-length _ _ c.self.invariant.1) at c.requires in
    let at = paired-at _ _ c.args.column c.self.invariant.1 within in
    rw (← c.self.view_is) (rw c.deref.ensures at c.name.ensures ∙ sym (ap (λ p. p.0) at))
