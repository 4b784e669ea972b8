use Rattle.std.proofs.Common.{◌≡◌, ◌-◌, suc, sym, arith}
use Rattle.load_memory.proofs.CellLaws.{start_at-first, start_at-next}
use Rattle.flat_rows.proofs.texts.start_of.Goals as goal

pub returns-then-i-eq0 : goal.returns-then-i-eq0
returns-then-i-eq0 c = rw c.if-i-eq0.true (sym (start_at-first 0 c.args.ends.now))

pub returns-else-i-eq0 : goal.returns-else-i-eq0
returns-else-i-eq0 c =
    let one : suc (c.args.i - 1) ≡ c.args.i = omega arith in
    let e = start_at-next 0 c.args.ends.now (c.args.i - 1) 0 (omega arith) in
    sym (rw one at e)
