use Rattle.std.proofs.Common.{◌≡◌, ◌+◌, map, take, string_bytes}
use Rattle.std.specs.List.{join_with_byte}
use Rattle.gq_lexer.proofs.block.join_lines.Given as goal

abbrev pub invariant-loop-line : goal.invariant-loop-line
invariant-loop-line l = string_bytes l.text ≡ join_with_byte 10 (take (l.line-index + 1) (map (λ line. line.now) l.lines))
