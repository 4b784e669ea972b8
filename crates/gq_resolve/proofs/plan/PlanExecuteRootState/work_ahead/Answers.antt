use Rattle.std.proofs.Common.{None}
use Rattle.gq_check.specs.Plans.{plan_of}
use Rattle.gq_resolve.proofs.Nearing.{wrote-parts}
use Rattle.gq_resolve.proofs.plan.PlanExecuteRootState.work_ahead.Goals as goal

pub returns : goal.returns
returns c =
    let parts = wrote-parts (plan_of c.args.self.now) c.args.memory.now None c.args.steps c.args.progress.now c.work_ahead.new.self c.work_ahead.result c.requires.fits c.work_ahead.ensures in
    record { fits = parts.0; nearer = parts.1 }
