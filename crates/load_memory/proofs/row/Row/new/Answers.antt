use Rattle.std.proofs.Common.{◌≤◌, length, arith}
use Rattle.std.proofs.lemmas.List.{take_all}
use Rattle.load_memory.proofs.RowLaws.{paired-parts}
use Rattle.load_memory.proofs.row.Row.new.Goals as goal

pub returns : goal.returns
returns c =
    let end : length c.args.pairs.now ≤ c.loop-text.text-index = omega (arith, c.loop-text-test.false) in
    rw (c.in_ok-sheet.ensures.ok, c.finish.ensures, c.end_row.ensures, c.loop-text.invariant, take_all c.loop-text.text-index c.args.pairs.now end) (paired-parts (λ p. p.0.now) (λ p. p.1.now) c.args.pairs.now)
