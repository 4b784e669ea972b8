use Rattle.std.proofs.Common.{◌≡◌, map}
use Rattle.gq_lexer.proofs.Blocks.{strip, part}
use Rattle.gq_lexer.proofs.block.unindent.Given as goal

abbrev pub invariant-loop-line : goal.invariant-loop-line
invariant-loop-line l = map (λ line. line.now) l.others ≡ part (strip l.indent) l.line-index (map (λ line. line.now) l.initial.others)
