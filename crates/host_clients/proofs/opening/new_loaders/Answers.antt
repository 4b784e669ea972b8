use Rattle.std.proofs.Common.{◌≡◌, ◌∙◌, ◌++◌, ◌∷◌, [], refl, ap, subst, Err}
use Rattle.std.proofs.lemmas.Result.{err_from_is_err_and}
use Rattle.load_queue.specs.Loaders.{IsBadLimit}
use Rattle.gq_bindings.specs.Seen.{loader_of}
use Rattle.server.specs.Opening.{new_loader}
use Rattle.host_clients.specs.Opening.{handed_in, limit_at}
use Rattle.host_clients.proofs.NewLoaders.{left-next, limits-fault, so-next, so-all}
use Rattle.host_clients.proofs.opening.new_loaders.Goals as goal

pub loop-line-preserved : goal.loop-line-preserved
loop-line-preserved c =
    let lines = c.args.lines.now in let line = c.line-item.result in let loader = c.in_ok-loader.loader in
    let pushed : c.push.new.self.items ≡ c.loop-line.loaders.items ++ loader ∷ [] = rw c.if-is_err.ensures.negation at c.push.ensures.items in
    let made : loader ≡ new_loader loader.identity (limit_at c.loop-line.left.now) (loader_of line) handed_in =
    c.in_ok-loader.ensures.made ∙ rw (c.as_str.ensures.value, c.mode_of.ensures, c.first_limit-limit.ensures.limit) refl in
    record {
      so = rw pushed (so-next c.args.limits.now c.loop-line.left.now _ lines c.loop-line.line-index line c.loop-line-test.true c.line-item.is c.loop-line.loaders.items loader
          c.loop-line.invariant.so made c.first_limit-limit.ensures.after);
      left = left-next c.args.limits.now c.loop-line.left.now _ c.loop-line.line-index c.loop-line.invariant.left c.first_limit-limit.ensures.after;
    }

pub returns-in_err-loader-clause-fault : goal.returns-in_err-loader-clause-fault
returns-in_err-loader-clause-fault c =
    let p = err_from_is_err_and c.from_residual-in_err-loader.result c.from_residual-in_err-loader.ensures.1 in
    rw (p.1, p.2)
    (limits-fault c.args.limits.now c.loop-line.left.now c.loop-line.line-index c.loop-line.invariant.left _
    (λ is. subst IsBadLimit c.first_limit-limit.ensures.limit (c.in_err-loader.ensures.refused.0 (ap Err is))))

pub returns-clause-made : goal.returns-clause-made
returns-clause-made c = so-all _ _ c.args.lines.now c.loop-line.line-index c.loop-line-test.false c.loop-line.loaders.items c.loop-line.invariant.so
