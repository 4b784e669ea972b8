use Rattle.std.proofs.Common.{◌≡◌, ◌≢◌, ◌+◌, ◌-◌, ◌/◌, arith, rules, ap}
use Rattle.crossbeam_queue.specs.Passes.{view}
use Rattle.batch_workers.specs.Work.{Worked}
use Rattle.batch_workers.proofs.Steps.{forks, merges}
use Rattle.batch_workers.proofs.Rounds.{both_worked}
use Rattle.batch_workers.proofs.round.+fn-share-join_mut+arg2+fn-share-join_mut+arg3+share.Goals as goal

pub another-other-requires-clause-rule : goal.another-other-requires-clause-rule
another-other-requires-clause-rule g t c =
    let part : (view c.args.worker.now).parts ≢ 0 = omega (arith, c.requires.part) in
    forks _ _ part

pub absorb-requires-clause-rule : goal.absorb-requires-clause-rule
absorb-requires-clause-rule g t c =
    let left : (view c.another-other.new.pass).parts ≡ (view c.args.worker.now).parts - (view c.args.worker.now).parts / 2 = ap (λ v. v.parts) c.another-other.ensures.rule.0 in
    let mine : Worked g.S.Source.may_answer c.args.bench.now.loaders.now c.args.bench.now.shelf.now (view c.another-other.new.pass) (view c.worker-1.given.0) c.join_mut-mine.result.0 = search rules in
    let part : (view c.worker-1.given.0).parts ≢ 0 = omega (arith, left, c.requires.part, mine.parts) in
    merges _ _ _ _ part

pub returns-clause-worked : goal.returns-clause-worked
returns-clause-worked g t c =
    let left = c.another-other.ensures.rule.0 in
    let right = c.another-other.ensures.rule.1 in
    let p : (view c.another-other.new.pass).parts ≡ (view c.args.worker.now).parts - (view c.args.worker.now).parts / 2 = ap (λ v. v.parts) left in
    let q : (view c.another-other.result).parts ≡ (view c.args.worker.now).parts / 2 = ap (λ v. v.parts) right in
    let whole : (view c.another-other.new.pass).parts + (view c.another-other.result).parts ≡ (view c.args.worker.now).parts = omega arith in
    let mine : Worked g.S.Source.may_answer c.args.bench.now.loaders.now c.args.bench.now.shelf.now (view c.another-other.new.pass) (view c.worker-1.given.0) c.join_mut-mine.result.0 = search rules in
    let theirs : Worked g.S.Source.may_answer c.args.bench.now.loaders.now c.args.bench.now.shelf.now (view c.another-other.result) (view c.other-2-1.given.0) c.join_mut-mine.result.1 = search rules in
    both_worked _ _ _ _ _ _ _ _ _ _ _ _ mine theirs
    whole (ap (λ v. v.all) left) (ap (λ v. v.taken) left) (ap (λ v. v.taken) right)
    c.absorb.ensures.rule c.join_receipts.ensures.items c.join_receipts.ensures.both
