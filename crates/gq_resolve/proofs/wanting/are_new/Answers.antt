use Rattle.std.proofs.Common.{◌≡◌, ◌+◌, ◌≤◌, ◌<◌, ℕ, List, drop, get_or, length, Option, refl, sym, subst, ◌∙◌, arith}
use Rattle.load_queue.specs.Wanted.{WantedOf}
use Rattle.plan_walk.specs.declared.positions.Onward.{Onward}
use Rattle.plan_walk.specs.declared.waiting.BlockedPosition.{BlockedPosition}
use Rattle.gq_resolve.proofs.AddingNew.{AreAlike, alike-more, alike-new, position-there, none-left, written-back}
use Rattle.gq_resolve.proofs.wanting.are_new.Goals as goal

pub loop-position-preserved : goal.loop-position-preserved
loop-position-preserved c =
    let all : List BlockedPosition = c.args.waiting.now in
    let wants : List WantedOf = c.args.wants.now in
    let i : ℕ = c.loop-position.position-index in
    let b : BlockedPosition = c.position-item.result in
    let new : List (Option Onward) = c.note.new.onwards in
    let lt : i < length all = subst (λ (bs : List BlockedPosition). i < length bs) c.as_slice-position-items.ensures.all (omega (arith, c.loop-position-test.true)) in
    let is : b ≡ get_or all i b = subst (λ (bs : List BlockedPosition). b ≡ get_or bs i b) c.as_slice-position-items.ensures.all c.position-item.is in
    let before : AreAlike c.deref_mut.result.now wants all (drop i all) = subst (λ os. AreAlike os wants all (drop i all)) (sym c.deref_mut.ensures.value) c.loop-position.invariant in
    let after : AreAlike new wants all (drop (i + 1) all) = alike-more c.deref_mut.result.now new wants all (drop i all) (drop (i + 1) all) b (position-there all i b lt is) (c.if-not-note.ensures.noted refl) c.note.ensures.same before in
    subst (λ os. AreAlike os wants all (drop (i + 1) all)) (sym (written-back new (drop (length new) c.loop-position.onwards.items) c.loop-position.onwards.len (c.note.ensures.same ∙ c.deref_mut.ensures.len))) after

pub returns : goal.returns
returns c each =
    let all : List BlockedPosition = c.args.waiting.now in
    let i : ℕ = c.loop-position.position-index in
    let past : length all ≤ i = subst (λ (bs : List BlockedPosition). length bs ≤ i) c.as_slice-position-items.ensures.all (omega (arith, c.loop-position-test.false)) in
    alike-new c.loop-position.onwards.items c.args.wants.now all (drop i all) c.as_slice-position-items.ensures.apart (none-left all i past) c.loop-position.invariant
