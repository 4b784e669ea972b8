use Rattle.std.proofs.Common.{◌+◌, ◌≤◌, Some, length, refl, arith}
use Rattle.load_memory.specs.Pairs.{look}
use Rattle.execution.specs.Loads.{read}
use Rattle.load_rounds.specs.Executions.{plans_in}
use Rattle.load_rounds.specs.Steps.{over}
use Rattle.load_rounds.proofs.Limiting.{all-there, left-next, left-none}
use Rattle.load_rounds.proofs.WorkingAhead.{is-none, ahead-none, next-fit, next-plan, next-ahead, ahead-fails, ahead-again}
use Rattle.load_rounds.proofs.executions.Executions.count_ahead.Goals as goal

pub loop-at-init : goal.loop-at-init
loop-at-init g c =
    let X = g.P.Execute in
    record { ahead = ahead-none X.program X.text_of X.loaders X.fits X.left c.args.steps c.args.memory.now c.args.self.now c.requires.fits; done = omega arith; ends = c.len-at-end.ensures }

pub count_ahead-requires-clause-can : goal.count_ahead-requires-clause-can
count_ahead-requires-clause-can g c =
    let X = g.P.Execute in
    let was = c.loop-at.invariant in
    let there = next-plan X.program X.text_of X.loaders X.fits X.left c.args.steps c.args.memory.now c.args.self.now c.loop-at.rest c.loop-at.at c.len-at-end.result c.loop-at.self c.execution_mut-execution.result.now c.loop-at-test.true was.ends c.execution_mut-execution.ensures.value was.ahead in
    all-there (λ plan. X.loaders plan ≤ length c.args.memory.now.modes) (plans_in c.args.self.now) c.loop-at.at c.execution_mut-execution.result.now.plan there.0 there.1 c.requires.enough

pub count_ahead-requires-clause-fits : goal.count_ahead-requires-clause-fits
count_ahead-requires-clause-fits g c =
    let X = g.P.Execute in
    let was = c.loop-at.invariant in
    next-fit X.program X.text_of X.loaders X.fits X.left c.args.steps c.args.memory.now c.args.self.now c.loop-at.rest c.loop-at.at c.len-at-end.result c.loop-at.self c.execution_mut-execution.result.now c.loop-at-test.true was.ends c.execution_mut-execution.ensures.value was.ahead

pub returns-in_err-counted-clause-ahead : goal.returns-in_err-counted-clause-ahead
returns-in_err-counted-clause-ahead g c =
    let X = g.P.Execute in
    let was = c.loop-at.invariant in
    let failed = next-ahead X.program X.text_of X.loaders X.fits X.left c.args.steps c.args.memory.now c.args.self.now c.loop-at.rest c.loop-at.at c.len-at-end.result c.loop-at.self c.execution_mut-execution.result.now c.loop-at-test.true was.ends c.execution_mut-execution.ensures.value was.ahead over c.count_ahead.new.self _ c.in_err-counted.ensures.ahead in
    ahead-fails X.program X.text_of X.loaders X.fits X.left c.args.steps c.args.memory.now c.args.self.now over _ c.from_residual.result _ c.from_residual.ensures.0 failed

pub returns-in_default-clause-ahead : goal.returns-in_default-clause-ahead
returns-in_default-clause-ahead g c =
    let X = g.P.Execute in
    let was = c.loop-at.invariant in
    let none = is-none c.in_ok-counted.field-0 c.in_default.not-Some in
    let own = rw none at c.in_ok-counted.ensures.ahead in
    next-ahead X.program X.text_of X.loaders X.fits X.left c.args.steps c.args.memory.now c.args.self.now c.loop-at.rest c.loop-at.at c.len-at-end.result c.loop-at.self c.execution_mut-execution.result.now c.loop-at-test.true was.ends c.execution_mut-execution.ensures.value was.ahead over c.count_ahead.new.self _ own

pub returns-in-None-clause-counted : goal.returns-in-None-clause-counted
returns-in-None-clause-counted g c =
    let X = g.P.Execute in
    let was = c.loop-at.invariant in
    let there = next-plan X.program X.text_of X.loaders X.fits X.left c.args.steps c.args.memory.now c.args.self.now c.loop-at.rest c.loop-at.at c.len-at-end.result c.loop-at.self c.execution_mut-execution.result.now c.loop-at-test.true was.ends c.execution_mut-execution.ensures.value was.ahead in
    let told = rw c.in-Some.is at c.in_ok-counted.ensures.counted in
    let step = rw c.in-None.is at told in
    rw c.in-None.is (left-none X.program X.text_of (read c.args.memory.now.modes (look c.args.memory.now.pairs)) c.loop-at.at c.args.most c.loop-at.left (plans_in c.args.self.now) c.execution_mut-execution.result.now.plan there.0 there.1 was.done step)

pub returns-in-None-clause-ahead : goal.returns-in-None-clause-ahead
returns-in-None-clause-ahead g c =
    let X = g.P.Execute in
    let was = c.loop-at.invariant in
    let own = rw c.in-Some.is at c.in_ok-counted.ensures.ahead in
    next-ahead X.program X.text_of X.loaders X.fits X.left c.args.steps c.args.memory.now c.args.self.now c.loop-at.rest c.loop-at.at c.len-at-end.result c.loop-at.self c.execution_mut-execution.result.now c.loop-at-test.true was.ends c.execution_mut-execution.ensures.value was.ahead over c.count_ahead.new.self _ own

pub loop-at-preserved : goal.loop-at-preserved
loop-at-preserved g c =
    let X = g.P.Execute in
    let was = c.loop-at.invariant in
    let there = next-plan X.program X.text_of X.loaders X.fits X.left c.args.steps c.args.memory.now c.args.self.now c.loop-at.rest c.loop-at.at c.len-at-end.result c.loop-at.self c.execution_mut-execution.result.now c.loop-at-test.true was.ends c.execution_mut-execution.ensures.value was.ahead in
    let own = rw c.in-Some.is at c.in_ok-counted.ensures.ahead in
    let told = rw c.in-Some.is at c.in_ok-counted.ensures.counted in
    let step = rw c.in-Some-left.is at told in
    record {
      ahead = ahead-again X.program X.text_of X.loaders X.fits X.left c.args.steps c.args.memory.now c.args.self.now over _ c.in-Some.counted.steps (Some c.in-Some.counted) refl (next-ahead X.program X.text_of X.loaders X.fits X.left c.args.steps c.args.memory.now c.args.self.now c.loop-at.rest c.loop-at.at c.len-at-end.result c.loop-at.self c.execution_mut-execution.result.now c.loop-at-test.true was.ends c.execution_mut-execution.ensures.value was.ahead over c.count_ahead.new.self _ own);
      done = left-next X.program X.text_of (read c.args.memory.now.modes (look c.args.memory.now.pairs)) c.loop-at.at (c.loop-at.at + 1) c.args.most c.loop-at.left c.in-Some-left.more (plans_in c.args.self.now) c.execution_mut-execution.result.now.plan (omega arith) there.0 there.1 was.done step;
      ends = was.ends;
    }
