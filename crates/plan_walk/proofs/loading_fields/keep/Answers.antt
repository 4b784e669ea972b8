use Rattle.std.proofs.Common.{rules, refl}
use Rattle.plan_walk.proofs.Grouping.{grows-kept}
use Rattle.plan_walk.proofs.loading_fields.keep.Goals as goal

pub returns-in_ok-push-clause-grows : goal.returns-in_ok-push-clause-grows
returns-in_ok-push-clause-grows c =
    λ plan shape. grows-kept plan c.args.groups.now.items c.args.group c.index_mut.result.now _ c.args.shape (search rules) c.index_mut.ensures.value refl refl c.in_ok-push.ensures.ok (shape (search rules))
