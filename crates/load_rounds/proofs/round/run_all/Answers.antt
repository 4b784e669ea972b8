use Rattle.std.proofs.Common.{◌≡◌, ◌∷◌, [], map, ap, arith}
use Rattle.std.proofs.lemmas.List.{append-nil}
use Rattle.std.proofs.lemmas.List.Elements.{All-head, All-tail}
use Rattle.load_memory.specs.Replies.{reply_of}
use Rattle.load_queue.specs.Orders.{asks, IsCutBy}
use Rattle.execution.specs.Rounds.{may_at}
use Rattle.execution.proofs.StoreLaws.{reply-ran}
use Rattle.load_rounds.proofs.Running.{replies-more, none-left}
use Rattle.load_rounds.proofs.round.run_all.Goals as goal

pub run-requires : goal.run-requires
run-requires g c =
    let rest = c.next.new.self.rest.items in
    let is : c.loop-order.order-iterator.rest.items ≡ c.in-Some.order ∷ rest = c.in-Some.ensures.steps.0 in
    All-head (IsCutBy c.args.loaders.now) c.in-Some.order rest (rw is at c.loop-order.invariant.cut)

pub loop-order-preserved : goal.loop-order-preserved
loop-order-preserved g c =
    let rest = c.next.new.self.rest.items in
    let is : c.loop-order.order-iterator.rest.items ≡ c.in-Some.order ∷ rest = c.in-Some.ensures.steps.0 in
    let fits = reply-ran g.S.LocalSource.may_tell c.args.loaders.now (asks c.in-Some.order) (reply_of c.in_ok-run.field-0) c.in_ok-run.ensures in
    record {
      cut = All-tail (IsCutBy c.args.loaders.now) c.in-Some.order rest (rw is at c.loop-order.invariant.cut);
      rest = replies-more (may_at g.S.LocalSource.may_tell c.args.loaders.now) (map asks c.args.orders.items) (map asks c.loop-order.order-iterator.rest.items) (map asks rest) (asks c.in-Some.order) c.loop-order.replies.items c.push.new.self.items c.in_ok-run.field-0 (ap (map asks) is) c.in_ok-push.ensures.items fits c.loop-order.invariant.rest;
    }

pub returns : goal.returns
returns g c =
    let none : c.loop-order.order-iterator.rest.items ≡ [] = none-left c.loop-order.order-iterator.rest.items (omega (arith, c.in-None.ensures.steps.0, c.loop-order.order-iterator.rest.ok)) in
    rw (← append-nil (map reply_of c.loop-order.replies.items)) (c.loop-order.invariant.rest [] (rw none tt))
