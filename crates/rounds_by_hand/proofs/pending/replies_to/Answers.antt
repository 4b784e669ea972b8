use Rattle.std.proofs.Common.{◌≡◌, ◌∷◌, [], ◌<◌, length, arith}
use Rattle.std.proofs.lemmas.List.Elements.{All-tail}
use Rattle.execution.specs.Rounds.{any_answer, may_at}
use Rattle.load_rounds.specs.Histories.{any_tell}
use Rattle.rounds_by_hand.specs.declared.pending.Pending.{Pending}
use Rattle.rounds_by_hand.specs.Pending.{order_in, CanAsk, IsReplied}
use Rattle.rounds_by_hand.proofs.Orders.{none-left, replies-one, replies-all}
use Rattle.rounds_by_hand.proofs.Storing.{given-one, given-all}
use Rattle.rounds_by_hand.proofs.pending.replies_to.Goals as goal

pub loop-one-preserved : goal.loop-one-preserved
loop-one-preserved g c =
    let ls = c.args.loaders.now in
    let items = c.loop-one.one-iterator.rest.items in
    let rest = c.next.new.self.rest.items in
    let is : items ≡ c.in-Some.one ∷ rest = c.in-Some.ensures.steps.0 in
    let put = c.in_ok-push.ensures.items in
    let one = c.in-Some.one in
    let was = c.loop-one.replies.items in
    let now = c.push.new.self.items in
    let reply = c.in_ok-reply_to.field-0 in
    let all = c.args.pending.items in
    record {
      below = All-tail (λ (o : Pending). (order_in o).loader < length ls) one rest (rw is at c.loop-one.invariant.below);
      own = All-tail (CanAsk ls) one rest (rw is at c.loop-one.invariant.own);
      any = replies-one (IsReplied any_answer) (may_at any_tell ls) all items rest one was now reply is put c.in_ok-reply_to.ensures.any c.loop-one.invariant.any;
      told = replies-one (IsReplied (may_at g.S.LocalSource.may_tell ls)) (may_at g.S.LocalSource.may_tell ls) all items rest one was now reply is put c.in_ok-reply_to.ensures.told c.loop-one.invariant.told;
      as_given = given-one (may_at g.S.LocalSource.may_tell ls) all items rest one was now reply is put c.in_ok-reply_to.ensures.as_given c.loop-one.invariant.as_given;
    }

pub returns-clause-any : goal.returns-clause-any
returns-clause-any g c =
    let ls = c.args.loaders.now in
    let none : c.loop-one.one-iterator.rest.items ≡ [] = none-left c.loop-one.one-iterator.rest.items (omega (arith, c.in-None.ensures.steps.0, c.loop-one.one-iterator.rest.ok)) in
    replies-all (IsReplied any_answer) (may_at any_tell ls) c.args.pending.items c.loop-one.one-iterator.rest.items c.loop-one.replies.items none c.loop-one.invariant.any

pub returns-clause-told : goal.returns-clause-told
returns-clause-told g c =
    let ls = c.args.loaders.now in
    let none : c.loop-one.one-iterator.rest.items ≡ [] = none-left c.loop-one.one-iterator.rest.items (omega (arith, c.in-None.ensures.steps.0, c.loop-one.one-iterator.rest.ok)) in
    replies-all (IsReplied (may_at g.S.LocalSource.may_tell ls)) (may_at g.S.LocalSource.may_tell ls) c.args.pending.items c.loop-one.one-iterator.rest.items c.loop-one.replies.items none c.loop-one.invariant.told

pub returns-clause-as_given : goal.returns-clause-as_given
returns-clause-as_given g c =
    let ls = c.args.loaders.now in
    let none : c.loop-one.one-iterator.rest.items ≡ [] = none-left c.loop-one.one-iterator.rest.items (omega (arith, c.in-None.ensures.steps.0, c.loop-one.one-iterator.rest.ok)) in
    given-all (may_at g.S.LocalSource.may_tell ls) c.args.pending.items c.loop-one.one-iterator.rest.items c.loop-one.replies.items none c.loop-one.invariant.as_given
