use Rattle.std.proofs.Common.{string_bytes}
use Rattle.gq_schema.specs.Types.{tree_of}
use Rattle.fault_sentences.proofs.Sentences.{missing_says}
use Rattle.fault_sentences.proofs.told.bindings_sentence.Goals as goal

pub returns-then-line-eq0 : goal.returns-then-line-eq0
returns-then-line-eq0 c =
    missing_says string_bytes (tree_of c.args.schema.now) _ c.args.bindings.now c.args.line c.missing_line.result c.sentence.result
    c.in_ok-text.ensures c.if-line-eq0.true c.missing_line.ensures c.sentence.ensures
