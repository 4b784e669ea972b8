use Rattle.std.proofs.Common.{◌≡◌, ◌∙◌, rules}
use Rattle.gq_resolve.specs.Suspended.{plan_on}
use Rattle.gq_resolve.proofs.Ahead.{ahead-whole}
use Rattle.gq_resolve.proofs.answer_ahead.AnswerAhead.finish.Goals as goal

pub returns : goal.returns
returns c = λ ahead.
    let further = c.in_ok-whole.ensures ahead in
    let same : c.args.self.most ≡ c.args.most = search rules in
    ahead-whole (plan_on c.args.walk.now) c.args.walk.now.memory.now c.args.most c.in_ok-whole.whole (search rules) (further.limit ∙ same) further.ahead
