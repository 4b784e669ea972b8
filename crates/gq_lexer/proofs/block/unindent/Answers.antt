use Rattle.std.proofs.Common.{List, ℕ, Bor, ◌-◌, length, drop, take, map, sym, arith}
use Rattle.gq_lexer.proofs.Blocks.{strip, part_more, unindent_done}
use Rattle.gq_lexer.proofs.block.unindent.Goals as goal

pub loop-line-preserved : goal.loop-line-preserved
loop-line-preserved c =
    let now = λ (line : Bor (List ℕ)). line.now in
    part_more now (strip c.in-Some.indent) c.loop-line.others (map now (take (length c.args.lines.now - 1) (drop 1 c.args.lines.now))) c.loop-line.line-index c.strip_indent.result _ (omega arith) c.loop-line.invariant c.strip_indent.ensures

pub returns-after-loop-line : goal.returns-after-loop-line
returns-after-loop-line c =
    unindent_done (λ (line : Bor (List ℕ)). line.now) c.in-Some.indent c.loop-line.line-index c.args.lines.now c.loop-line.others c.in-len1-up.len_at_least (sym c.in-Some.ensures) c.loop-line.invariant c.loop-line-test.false
