use Rattle.std.proofs.Common.{arith, map, ◌∙◌, ap, sym, ◌++◌}
use Rattle.std.proofs.lemmas.List.{append-nil}
use Rattle.rounds_by_hand.specs.Pending.{still_out}
use Rattle.rounds_by_hand.proofs.Orders.{out-more, none-left}
use Rattle.rounds_by_hand.proofs.pending.all_out.Goals as goal

pub loop-order-preserved : goal.loop-order-preserved
loop-order-preserved c =
    out-more c.loop-order.pending.items c.push.new.self.items c.loop-order.order-iterator.rest.items c.next.new.self.rest.items (map still_out c.args.orders.items) c.in-Some.order c.in-Some.ensures.steps.0 c.in_ok-push.ensures.items c.loop-order.invariant

pub returns : goal.returns
returns c =
    let none = none-left c.loop-order.order-iterator.rest.items (omega (arith, c.in-None.ensures.steps.0, c.loop-order.order-iterator.rest.ok)) in
    sym (append-nil c.loop-order.pending.items) ∙ ap (λ os. c.loop-order.pending.items ++ map still_out os) (sym none) ∙ c.loop-order.invariant
