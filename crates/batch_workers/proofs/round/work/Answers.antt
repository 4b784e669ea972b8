use Rattle.std.proofs.Common.{◌≢◌, arith, ◌∙◌}
use Rattle.std.proofs.lemmas.Result.{err_from_is_err_and}
use Rattle.crossbeam_queue.specs.Passes.{view, IsPassOf}
use Rattle.batch_workers.proofs.Steps.{takes, learns}
use Rattle.batch_workers.proofs.Rounds.{stopped, served}
use Rattle.batch_workers.proofs.round.work.Goals as goal

pub pop_as-requires-clause-rule : goal.pop_as-requires-clause-rule
pop_as-requires-clause-rule g c =
    let part : (view c.loop.worker).parts ≢ 0 = omega (arith, c.loop.invariant.1.parts, c.requires.part) in
    (takes _ _ part, learns _ _ part)

pub returns-in_err-serve-clause-worked : goal.returns-in_err-serve-clause-worked
returns-in_err-serve-clause-worked g c =
    let failed = err_from_is_err_and c.from_residual.result c.from_residual.ensures.1 in
    rw failed.1 (stopped _ _ _ _ _ _ _ _ _ c.loop.invariant.1 c.in-Some-pop_as.ensures.rule.0)

pub returns-in_err-push-clause-worked : goal.returns-in_err-push-clause-worked
returns-in_err-push-clause-worked g c =
    let failed = err_from_is_err_and c.from_residual-in_err-push.result c.from_residual-in_err-push.ensures.1 in
    rw failed.1 (stopped _ _ _ _ _ _ _ _ _ c.loop.invariant.1 c.in-Some-pop_as.ensures.rule.0)

pub loop-preserved : goal.loop-preserved
loop-preserved g c =
    let rule = c.in-Some-pop_as.ensures.rule in
    let queue = c.in-Some-pop_as.ensures.queue in
    let pass : IsPassOf c.args.bench.now.desk.now c.pop_as.new.pass = (queue.0 ∙ c.loop.invariant.0.0, queue.2 ∙ c.loop.invariant.0.1) in
    (pass, served _ _ _ _ _ _ _ _ _ _ c.loop.invariant.1 rule.0 c.in_ok-serve.ensures c.in_ok-push.ensures.items)
