use Rattle.std.proofs.Common.{[], arith}
use Rattle.load_queue.proofs.SeenLaws.{seen-none}
use Rattle.load_queue.proofs.wants.forget_seen.Goals as goal

pub returns-then-seen-gt0 : goal.returns-then-seen-gt0
returns-then-seen-gt0 c = λ was mode keys saw. c.new.ensures mode []

pub returns-else-seen-gt0 : goal.returns-else-seen-gt0
returns-else-seen-gt0 c = λ was mode keys saw. seen-none was mode c.args.seen.now keys saw (omega (arith, c.if-seen-gt0.false))
