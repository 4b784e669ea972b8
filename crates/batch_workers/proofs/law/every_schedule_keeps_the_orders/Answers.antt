use Rattle.batch_workers.proofs.Cores.{conserved}
use Rattle.batch_workers.proofs.law.every_schedule_keeps_the_orders.Goals as goal

pub returns : goal.returns
returns c = conserved
