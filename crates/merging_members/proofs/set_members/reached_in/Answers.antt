use Rattle.std.proofs.Common.{[]}
use Rattle.merging_members.proofs.set_members.reached_in.Goals as goal

pub returns : goal.returns
returns c = λ spread test knows passes. c.enter_set-next.ensures.reached spread test [] knows passes (c.new-reached.ensures c.args.walk.now.rows.now)
