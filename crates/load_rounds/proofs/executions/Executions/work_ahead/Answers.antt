use Rattle.load_rounds.proofs.WorkingAhead.{ahead-none, next-fit, next-ahead, ahead-fails}
use Rattle.load_rounds.proofs.executions.Executions.work_ahead.Goals as goal

pub loop-at-init : goal.loop-at-init
loop-at-init g c =
    let X = g.P.Execute in
    record { ahead = ahead-none X.program X.text_of X.loaders X.fits X.left c.args.steps c.args.memory.now c.args.self.now c.requires.fits; ends = c.len-at-end.ensures }

pub work_ahead-requires : goal.work_ahead-requires
work_ahead-requires g c =
    let X = g.P.Execute in
    let was = c.loop-at.invariant in
    record { fits = next-fit X.program X.text_of X.loaders X.fits X.left c.args.steps c.args.memory.now c.args.self.now c.loop-at.rest c.loop-at.at c.len-at-end.result c.loop-at.self c.execution_mut.result.now c.loop-at-test.true was.ends c.execution_mut.ensures.value was.ahead }

pub returns-in_err-over : goal.returns-in_err-over
returns-in_err-over g c =
    let X = g.P.Execute in
    let was = c.loop-at.invariant in
    let failed = next-ahead X.program X.text_of X.loaders X.fits X.left c.args.steps c.args.memory.now c.args.self.now c.loop-at.rest c.loop-at.at c.len-at-end.result c.loop-at.self c.execution_mut.result.now c.loop-at-test.true was.ends c.execution_mut.ensures.value was.ahead (λ rest. rest) c.work_ahead.new.self _ c.in_err-over.ensures.ahead in
    record { ahead = ahead-fails X.program X.text_of X.loaders X.fits X.left c.args.steps c.args.memory.now c.args.self.now (λ rest. rest) _ c.from_residual.result _ c.from_residual.ensures.0 failed }

pub returns-in-None : goal.returns-in-None
returns-in-None g c =
    let X = g.P.Execute in
    let was = c.loop-at.invariant in
    let own = rw c.in-None.is at c.in_ok-over.ensures.ahead in
    record { ahead = next-ahead X.program X.text_of X.loaders X.fits X.left c.args.steps c.args.memory.now c.args.self.now c.loop-at.rest c.loop-at.at c.len-at-end.result c.loop-at.self c.execution_mut.result.now c.loop-at-test.true was.ends c.execution_mut.ensures.value was.ahead (λ rest. rest) c.work_ahead.new.self _ own }

pub loop-at-preserved : goal.loop-at-preserved
loop-at-preserved g c =
    let X = g.P.Execute in
    let was = c.loop-at.invariant in
    let own = rw c.in-Some.is at c.in_ok-over.ensures.ahead in
    record { ahead = next-ahead X.program X.text_of X.loaders X.fits X.left c.args.steps c.args.memory.now c.args.self.now c.loop-at.rest c.loop-at.at c.len-at-end.result c.loop-at.self c.execution_mut.result.now c.loop-at-test.true was.ends c.execution_mut.ensures.value was.ahead (λ rest. rest) c.work_ahead.new.self _ own; ends = was.ends }
