use Rattle.std.proofs.Common.{List, ℕ, String, Global, Bor, map, string_bytes, ap, ◌∙◌}
use Rattle.gq_lexer.specs.Block.{raw_of, lines_of, unindented, trimmed}
use Rattle.gq_lexer.proofs.Blocks.{block_done}
use Rattle.gq_lexer.proofs.block.block_value.Goals as goal

pub returns : goal.returns
returns c =
    let now = λ (line : Bor (List ℕ)). line.now in
    let raw = c.as_str.ensures.value ∙ c.in_ok-raw.ensures in
    let lines = ap (map now) c.as_mut_slice-lines.ensures.value ∙ c.in_ok-kept.ensures ∙ ap lines_of raw in
    block_done (λ (s : String Global). string_bytes s) c.join_lines.result (map now c.trim_blank_lines.result.now) (raw_of c.args.body.now) c.join_lines.ensures
    (c.trim_blank_lines.ensures ∙ ap trimmed (c.unindent.ensures ∙ ap unindented lines))
