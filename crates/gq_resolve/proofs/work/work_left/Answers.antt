use Rattle.gq_check.specs.Plans.{plan_of}
use Rattle.gq_resolve.proofs.Working.{plan-taken}
use Rattle.gq_resolve.proofs.work.work_left.Goals as goal

pub returns : goal.returns
returns c = λ rooted.
    let went = c.in_ok-walked.ensures rooted tt in
    plan-taken (plan_of c.args.walk.now.plan.now) c.args.walk.now.memory.now c.args.most c.in_ok-walked.walked.out.left c.requires went.put
