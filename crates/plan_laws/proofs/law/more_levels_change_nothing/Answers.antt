use Rattle.plan_laws.proofs.Valid.{plan-levels}
use Rattle.plan_laws.proofs.law.more_levels_change_nothing.Goals as goal

pub returns : goal.returns
returns c = λ plan levels is le. plan-levels plan is levels le
