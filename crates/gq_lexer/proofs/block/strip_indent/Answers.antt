use Rattle.std.proofs.Common.{arith}
use Rattle.gq_lexer.proofs.Blocks.{blank_boundary}
use Rattle.gq_lexer.proofs.block.strip_indent.Goals as goal

pub split_at-requires : goal.split_at-requires
split_at-requires c = blank_boundary c.args.line.now c.min.result c.utf8.line (omega arith)
