use Rattle.execution.specs.Rounds.{any_answer}
use Rattle.execution.proofs.ReplyLaws.{reply-order}
use Rattle.execution.proofs.law.reply_order_is_immaterial.Goals as goal

pub returns : goal.returns
returns c = λ rules p M round other is moved loader key. reply-order any_answer rules p M round other is.limited is.replies moved loader key
