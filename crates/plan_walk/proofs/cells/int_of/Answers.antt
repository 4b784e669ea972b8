use Rattle.std.proofs.Common.{◌∙◌}
use Rattle.gq_schema.proofs.IntTexts.{parsed}
use Rattle.plan_walk.proofs.cells.int_of.Goals as goal

pub returns : goal.returns
returns c = c.ok.ensures.value ∙ parsed c.args.text.now c.parse.result c.parse.ensures.value.0
