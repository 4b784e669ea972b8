use Rattle.gq_check.specs.Plans.{plan_of}
use Rattle.gq_resolve.proofs.Advancing.{still-waits}
use Rattle.gq_resolve.proofs.advance.go_on.Goals as goal

pub returns-then-is_empty : goal.returns-then-is_empty
returns-then-is_empty c = λ may. c.begin.ensures (c.in_ok-searched.ensures may).goes_on.rooted

pub returns : goal.returns
returns c = λ may. still-waits (plan_of c.args.walk.now.plan.now) c.args.walk.now.memory.now c.args.most c.in_ok-searched.searched (λ none. cc (c.if-is_empty.ensures.1 none)) (c.in_ok-searched.ensures may)
