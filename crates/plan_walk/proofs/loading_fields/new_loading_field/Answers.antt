use Rattle.std.proofs.Common.{rules}
use Rattle.plan_walk.proofs.Grouping.{is-new}
use Rattle.plan_walk.proofs.loading_fields.new_loading_field.Goals as goal

pub returns : goal.returns
returns c = rw c.in_ok-push.ensures.items (is-new c.args.groups.now.items _ c.len-number.result (search rules) (search rules))
