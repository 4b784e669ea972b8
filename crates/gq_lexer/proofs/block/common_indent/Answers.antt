use Rattle.std.proofs.Common.{rules, tests, ◌∙◌}
use Rattle.std.proofs.lemmas.Iterator.{YieldsList-from_slice}
use Rattle.std.proofs.lemmas.Iterator.Consumers.{YieldsList-from_filter_map, min_from_yields_List}
use Rattle.gq_lexer.specs.Block.{indent_of}
use Rattle.gq_lexer.proofs.Blocks.{least_indent, same_option}
use Rattle.gq_lexer.proofs.block.common_indent.Goals as goal

pub returns : goal.returns
returns c =
    same_option c.min.result
    ∙ min_from_yields_List _ _ c.min.ensures.ran (YieldsList-from_filter_map _ (λ line. indent_of line.now) (YieldsList-from_slice c.args.lines.now cc) c.filter_map.ensures.closure (λ x r q k. search (rules, tests)))
    ∙ least_indent c.args.lines.now
