use Rattle.std.proofs.Common.{◌≡◌, ◌∷◌, [], map, ap, arith}
use Rattle.std.proofs.lemmas.List.{append-nil}
use Rattle.std.proofs.lemmas.List.Elements.{All-head, All-tail}
use Rattle.load_memory.specs.Replies.{reply_of}
use Rattle.load_queue.specs.Orders.{asks, IsCutBy}
use Rattle.execution.specs.Rounds.{may_at}
use Rattle.load_rounds.specs.Histories.{any_tell}
use Rattle.load_rounds.proofs.Running.{replies-more, none-left}
use Rattle.example_totals.proofs.by_hand.replies_to.Goals as goal

pub reply_to-requires : goal.reply_to-requires
reply_to-requires c =
    let rest = c.next.new.self.rest.items in
    let is : c.loop-order.order-iterator.rest.items ≡ c.in-Some.order ∷ rest = c.in-Some.ensures.steps.0 in
    All-head (IsCutBy c.args.loaders.now) c.in-Some.order rest (rw is at c.loop-order.invariant.cut)

pub loop-order-preserved : goal.loop-order-preserved
loop-order-preserved c =
    let rest = c.next.new.self.rest.items in
    let is : c.loop-order.order-iterator.rest.items ≡ c.in-Some.order ∷ rest = c.in-Some.ensures.steps.0 in
    record {
      cut = All-tail (IsCutBy c.args.loaders.now) c.in-Some.order rest (rw is at c.loop-order.invariant.cut);
      rest = replies-more (may_at any_tell c.args.loaders.now) (map asks c.args.orders.items) (map asks c.loop-order.order-iterator.rest.items) (map asks rest) (asks c.in-Some.order) c.loop-order.replies.items c.push.new.self.items c.in_ok-reply_to.field-0 (ap (map asks) is) c.in_ok-push.ensures.items c.in_ok-reply_to.ensures c.loop-order.invariant.rest;
    }

pub returns : goal.returns
returns c =
    let none : c.loop-order.order-iterator.rest.items ≡ [] = none-left c.loop-order.order-iterator.rest.items (omega (arith, c.in-None.ensures.steps.0, c.loop-order.order-iterator.rest.ok)) in
    rw (← append-nil (map reply_of c.loop-order.replies.items)) (c.loop-order.invariant.rest [] (rw none tt))
