use Rattle.bindings_syntax.proofs.Cutting.{cut_from, cut_shorter}
use Rattle.fault_sentences.proofs.cut.cut.Goals as goal

pub returns-clause-parts : goal.returns-clause-parts
returns-clause-parts c = cut_from c.args.mark c.args.text.now _ c.split_once.ensures.cases c.requires

pub returns-clause-shorter : goal.returns-clause-shorter
returns-clause-shorter c = cut_shorter c.args.mark c.args.text.now _ c.split_once.ensures.cases c.requires
