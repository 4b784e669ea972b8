use Rattle.std.proofs.lemmas.Result.{on_ok_weaker}
use Rattle.gq_resolve.proofs.Taking.{goes-completed}
use Rattle.gq_resolve.proofs.answer_text.AnswerText.complete.Goals as goal

pub returns : goal.returns
returns c = on_ok_weaker c.go_on_as.result (λ h. goes-completed _ _ c.args.self.now _ c.in_ok-text.text c.in_ok-text.ensures.most c.in_ok-text.ensures.text h) c.go_on_as.ensures
