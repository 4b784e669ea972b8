use Rattle.std.proofs.Common.{◌≡◌, ◌++◌, map, length, IsUtf8}
use Rattle.gq_lexer.specs.Block.{lines_of}
use Rattle.gq_lexer.proofs.block.lines_of.Given as goal

abbrev pub invariant-loop-lines : goal.invariant-loop-lines
invariant-loop-lines l = record {
  so_far : map (λ line. line.now) l.lines.items ++ lines_of l.rest ≡ lines_of l.text;
  utf8 : IsUtf8 l.rest;
}

abbrev pub decreases-loop-lines : goal.decreases-loop-lines
decreases-loop-lines l = length l.rest
