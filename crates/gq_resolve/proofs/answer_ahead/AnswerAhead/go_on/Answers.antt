use Rattle.gq_resolve.specs.Suspended.{plan_on}
use Rattle.gq_resolve.proofs.Ahead.{ahead-further}
use Rattle.gq_resolve.proofs.answer_ahead.AnswerAhead.go_on.Goals as goal

pub returns : goal.returns
returns c = λ h.
    ahead-further (plan_on c.args.walk.now) c.args.walk.now.memory.now c.args.steps c.args.self c.in_ok-walked.walked h (c.in_ok-walked.ensures h.taken h.rest h.paused tt)
