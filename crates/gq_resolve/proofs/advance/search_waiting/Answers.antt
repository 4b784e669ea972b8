use Rattle.std.proofs.Common.{◌≡◌, ◌+◌, ◌<◌, ◌≤◌, ◌∷◌, ℕ, List, [], drop, get_or, length, refl, subst, arith}
use Rattle.std.proofs.lemmas.List.{drop_all}
use Rattle.load_memory.specs.Keys.{borrowed_of}
use Rattle.gq_resolve.specs.Composing.{puts-none}
use Rattle.plan_walk.specs.declared.waiting.BlockedPosition.{BlockedPosition}
use Rattle.plan_walk.proofs.Touring.{goes-put}
use Rattle.gq_resolve.proofs.AddingNew.{position-there}
use Rattle.gq_resolve.proofs.Advancing.{resumed-one, all-resumed}
use Rattle.gq_resolve.proofs.advance.search_waiting.Goals as goal

pub loop-position-init : goal.loop-position-init
loop-position-init c = record { before = []; split = refl; goes = goes-put refl (λ k v _. puts-none v _) }

pub loop-position-preserved : goal.loop-position-preserved
loop-position-preserved c =
    let all : List BlockedPosition = c.args.waiting in
    let i : ℕ = c.loop-position.position-index in
    let b : BlockedPosition = c.position-item.result in
    let lt : i < length all = subst (λ (bs : List BlockedPosition). i < length bs) c.as_slice-position-items.ensures.all (omega (arith, c.loop-position-test.true)) in
    let is : b ≡ get_or all i b = subst (λ (bs : List BlockedPosition). b ≡ get_or bs i b) c.as_slice-position-items.ensures.all c.position-item.is in
    let next : drop i all ≡ b ∷ drop (i + 1) all = position-there all i b lt is in
    resumed-one b (borrowed_of c.as_key_ref.result) next c.as_key_ref.ensures c.in_ok-read.ensures c.loop-position.invariant

pub returns : goal.returns
returns c = λ may.
    let all : List BlockedPosition = c.args.waiting in
    let ended : drop c.loop-position.position-index all ≡ [] = drop_all c.loop-position.position-index all (subst (λ (bs : List BlockedPosition). length bs ≤ c.loop-position.position-index) c.as_slice-position-items.ensures.all (omega (arith, c.loop-position-test.false))) in
    all-resumed c.args.rooted refl c.waiting_only.ensures.blocked ended c.loop-position.invariant may
