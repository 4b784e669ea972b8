use Rattle.std.proofs.Common.{subst, sym, ℕ, ◌++◌, ◌∷◌, [], set}
use Rattle.merging_members.specs.Placed.{HasPlace, ArePlaced}
use Rattle.merging_members.proofs.Placing.{placed-more}
use Rattle.merging_members.proofs.numbering.place.Goals as goal

pub returns-clause-placed : goal.returns-clause-placed
returns-clause-placed c = λ d placed ready.
    let order = c.args.numbering.now.order.items in
    let numbers = c.args.numbering.now.numbers.items in
    let x = c.args.field in
    let free : HasPlace order numbers x → ⊥ = c.if-has_place.ensures in
    rw (c.in_ok-push.ensures.items, c.len-next.ensures)
    (subst (λ (k : ℕ). ArePlaced d (order ++ x ∷ []) (set numbers x k)) (sym c.args.numbering.now.order.ok.0) (placed-more order numbers x c.requires.there free d placed ready))
