use Rattle.std.proofs.lemmas.Result.{on_ok_weaker}
use Rattle.plan_program.specs.Prepared.{leaf_value_seen}
use Rattle.plan_walk.specs.Positions.{is_non_null}
use Rattle.gq_resolve.proofs.Taking.{takes-error}
use Rattle.gq_resolve.proofs.answer_text.AnswerText.first_error.Goals as goal

pub returns : goal.returns
returns c =
    on_ok_weaker c.go_on_as.result (λ h. takes-error (is_non_null c.args.nullability) (leaf_value_seen c.args.leaf_value.now) _ c.args.self.now c.go_on_as.new.self c.in_ok-text.text c.enter_item.new.self c.leaf_value.new.self c.requires c.in_ok-text.ensures.most c.in_ok-text.ensures.text c.in_ok-enter_item.ensures c.in_ok-leaf_value.ensures h) c.go_on_as.ensures
