use Rattle.std.proofs.Common.{ap, ◌∙◌}
use Rattle.std.specs.Prelude.{not}
use Rattle.plan_program.proofs.Grouping.{any_texts}
use Rattle.plan_program.proofs.collected.CollectedFields.enter.Goals as goal

pub returns-clause-is_new : goal.returns-clause-is_new
returns-clause-is_new c = c.in_ok-insert.ensures.added ∙ ap not (any_texts c.args.name.now c.args.self.now.entered.keys)
