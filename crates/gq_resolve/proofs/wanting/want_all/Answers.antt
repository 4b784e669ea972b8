use Rattle.std.proofs.Common.{◌≡◌, ◌∷◌, subst, sym, IsTrue}
use Rattle.plan_walk.specs.Noted.{left_of_own}
use Rattle.plan_walk.proofs.Noting.{own-next}
use Rattle.gq_resolve.specs.NewKeys.{AreNew}
use Rattle.gq_resolve.proofs.Evaluating.{added-none, added-more}
use Rattle.gq_resolve.proofs.AddingNew.{rest-new}
use Rattle.gq_resolve.proofs.wanting.want_all.Goals as goal

pub loop-position-init : goal.loop-position-init
loop-position-init c = record {
  added = added-none c.args.wants.now c.args.waiting _ c.into_iter-position-iterator.ensures.into_iter_gives.all;
  new = subst (λ bs. IsTrue c.args.are_new → AreNew c.args.wants.now bs) (sym c.into_iter-position-iterator.ensures.into_iter_gives.all) c.requires.new;
}

pub loop-position-preserved : goal.loop-position-preserved
loop-position-preserved c =
    let next : left_of_own c.loop-position.position-iterator ≡ c.in-Some.position ∷ left_of_own c.next.new.self = own-next _ c.in-Some.position c.next.new.self c.in-Some.ensures.steps in
    record {
      added = added-more c.args.wants.now c.loop-position.wants c.want.new.wants c.args.waiting (left_of_own c.loop-position.position-iterator) (left_of_own c.next.new.self) c.in-Some.position next c.in_ok-want.ensures.ok c.want.ensures.loaders c.loop-position.invariant.added;
      new = rest-new c.args.are_new c.loop-position.wants c.want.new.wants (left_of_own c.loop-position.position-iterator) (left_of_own c.next.new.self) c.in-Some.position next c.in_ok-want.ensures.ok c.loop-position.invariant.new;
    }
