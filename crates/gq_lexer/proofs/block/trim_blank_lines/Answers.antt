use Rattle.std.proofs.Common.{List, ℕ, Bor}
use Rattle.std.proofs.lemmas.List.{take_rest}
use Rattle.gq_lexer.proofs.Blocks.{trimmed_is}
use Rattle.gq_lexer.proofs.block.trim_blank_lines.Goals as goal

pub returns : goal.returns
returns c =
    trimmed_is (λ (line : Bor (List ℕ)). line.now) c.args.lines.now _ c.blank_front.result c.blank_back.result c.blank_front.ensures.value (take_rest c.args.lines.now c.blank_front.result) c.blank_back.ensures.value c.blank_back.ensures.within
