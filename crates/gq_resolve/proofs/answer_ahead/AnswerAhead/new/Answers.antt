use Rattle.std.proofs.Common.{refl}
use Rattle.gq_resolve.proofs.Ahead.{ahead-begun}
use Rattle.gq_resolve.proofs.answer_ahead.AnswerAhead.new.Goals as goal

pub returns-clause-ahead : goal.returns-clause-ahead
returns-clause-ahead c = λ plan m rooted settled.
    ahead-begun plan m c.args.most c.unwrap_or.result _ c.new-output.result _ c.unwrap_or.ensures c.new-output.ensures refl c.new-walked.ensures.out settled (c.new-walked.ensures.paused plan m rooted)
