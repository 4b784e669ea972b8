use Rattle.std.proofs.Common.{◌≡◌, ◌+◌, ◌<◌, ℕ, List, ◌∷◌, drop, get_or, length, ap, refl, subst, ◌∙◌, arith}
use Rattle.load_memory.specs.Keys.{KeyOf, key_of}
use Rattle.load_queue.specs.Wanted.{with_wanted}
use Rattle.plan_walk.specs.declared.waiting.BlockedPosition.{BlockedPosition}
use Rattle.gq_resolve.proofs.Evaluating.{added-none, added-more}
use Rattle.gq_resolve.proofs.AddingNew.{position-there, rest-new}
use Rattle.gq_resolve.proofs.wanting.want_each.Goals as goal

pub loop-position-init : goal.loop-position-init
loop-position-init c = record {
  added = added-none c.args.wants.now c.args.waiting.now c.args.waiting.now refl;
  new = c.requires.new;
}

pub loop-position-preserved : goal.loop-position-preserved
loop-position-preserved c =
    let all : List BlockedPosition = c.args.waiting.now in
    let i : ℕ = c.loop-position.position-index in
    let b : BlockedPosition = c.position-item.result in
    let lt : i < length all = subst (λ (bs : List BlockedPosition). i < length bs) c.as_slice-position-items.ensures.all (omega (arith, c.loop-position-test.true)) in
    let is : b ≡ get_or all i b = subst (λ (bs : List BlockedPosition). b ≡ get_or bs i b) c.as_slice-position-items.ensures.all c.position-item.is in
    let next : drop i all ≡ b ∷ drop (i + 1) all = position-there all i b lt is in
    let after : c.want.new.wants ≡ with_wanted c.loop-position.wants b.loader (key_of b.key) = c.in_ok-want.ensures.ok ∙ ap (λ (k : KeyOf). with_wanted c.loop-position.wants b.loader k) c.in_ok-key.ensures.cases in
    record {
      added = added-more c.args.wants.now c.loop-position.wants c.want.new.wants all (drop i all) (drop (i + 1) all) b next after c.want.ensures.loaders c.loop-position.invariant.added;
      new = rest-new c.args.are_new c.loop-position.wants c.want.new.wants (drop i all) (drop (i + 1) all) b next after c.loop-position.invariant.new;
    }
