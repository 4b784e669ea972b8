use Rattle.std.proofs.Common.{◌∙◌, ap, map, refl, sym}
use Rattle.rounds_by_hand.specs.Pending.{order_in}
use Rattle.rounds_by_hand.specs.declared.handed_in.HandedIn.{HandedIn}
use Rattle.server.specs.Hands.{ByHandOf}
use Rattle.host_clients.specs.UnderWay.{UnderWayOf, orders_out}
use Rattle.host_clients.proofs.Underway.{answer-of, answers-it, given-up-after, holds-given-up, holds-under-way, none-out}
use Rattle.host_clients.proofs.under_way.UnderWay.advance.Goals as goal

pub invariant_of-self : goal.invariant_of-self
invariant_of-self c =
    let own = c.self.inside in let e = c.advance.ensures in
    holds-under-way own.queries.value own.hand c.advance.new.self own.note.asked own.orders c.stepped.new.orders e.underway e.planned
    (rw c.in-Ok-Round.field-0-is at c.in-Ok-Round.ensures.orders ∙ ap (map order_in) c.orders.ensures) c.self.invariant

pub invariant_of-self-in-Ok-Working : goal.invariant_of-self-in-Ok-Working
invariant_of-self-in-Ok-Working c =
    let own = c.self.inside in let e = c.advance.ensures in let did = rw c.in-Ok-Working.field-0-is at c.in-Ok-Working.ensures.did in let new = c.advance.new.self in
    holds-under-way own.queries.value own.hand new own.note.asked own.orders c.stepped.new.orders e.underway e.planned
    (rw c.in-Ok-Working.field-0-is at c.in-Ok-Working.ensures.orders ∙ none-out new.far (rw did at e.stepped).1) c.self.invariant

pub invariant_of-self-in-Ok-Waiting : goal.invariant_of-self-in-Ok-Waiting
invariant_of-self-in-Ok-Waiting c =
    let own = c.self.inside in let e = c.advance.ensures in let did = rw c.in-Ok-Waiting.field-0-is at c.in-Ok-Waiting.ensures.did in let waits = rw did at e.stepped in
    holds-under-way own.queries.value own.hand c.advance.new.self own.note.asked own.orders c.stepped.new.orders e.underway e.planned
    (rw c.in-Ok-Waiting.field-0-is at c.in-Ok-Waiting.ensures.orders ∙ c.self.invariant.orders_are ∙ ap (λ (h : ByHandOf HandedIn). orders_out h) (sym waits.1)) c.self.invariant

pub invariant_of-self-in-Ok-Done : goal.invariant_of-self-in-Ok-Done
invariant_of-self-in-Ok-Done c =
    let own = c.self.inside in let e = c.advance.ensures in let g = c.give_up in
    holds-given-up own.queries.value own.hand c.advance.new.self g.new.hand own.note.asked own.orders g.new.orders e.underway e.planned g.ensures.underway g.ensures.planned g.ensures.none c.self.invariant

pub invariant_of-self-in-Ok-Over : goal.invariant_of-self-in-Ok-Over
invariant_of-self-in-Ok-Over c =
    let own = c.self.inside in let e = c.advance.ensures in let g = c.give_up-in-Ok-Over in
    holds-given-up own.queries.value own.hand c.advance.new.self g.new.hand own.note.asked own.orders g.new.orders e.underway e.planned g.ensures.underway g.ensures.planned g.ensures.none c.self.invariant

pub invariant_of-self-in-Err : goal.invariant_of-self-in-Err
invariant_of-self-in-Err c =
    let own = c.self.inside in let e = c.advance.ensures in let g = c.give_up-in-Err in
    holds-given-up own.queries.value own.hand c.advance.new.self g.new.hand own.note.asked own.orders g.new.orders e.underway e.planned g.ensures.underway g.ensures.planned g.ensures.none c.self.invariant

pub returns-in-Ok-Round : goal.returns-in-Ok-Round
returns-in-Ok-Round c =
    let e = c.advance.ensures in let did = rw c.in-Ok-Round.field-0-is at c.in-Ok-Round.ensures.did in
    rw (← c.self.view_is)
    (record { same = e.same; stored = rw did at e.stored }, (record { server_is = refl; asked_is = refl; planned_is = e.planned; goes_on = e.underway }, (rw did at e.stepped).1))

pub returns-in-Ok-Working : goal.returns-in-Ok-Working
returns-in-Ok-Working c =
    let e = c.advance.ensures in let did = rw c.in-Ok-Working.field-0-is at c.in-Ok-Working.ensures.did in
    rw (← c.self.view_is)
    (record { same = e.same; stored = rw did at e.stored }, (record { server_is = refl; asked_is = refl; planned_is = e.planned; goes_on = e.underway }, (rw did at e.stepped).1, rw did at e.working))

pub returns-in-Ok-Done : goal.returns-in-Ok-Done
returns-in-Ok-Done c =
    let own = c.self.inside in let u : UnderWayOf = record { hand = own.hand; server = own.queries.value; asked = own.note.asked } in let e = c.advance.ensures in let g = c.give_up in
    let did = rw c.in-Ok-Done.field-0-is at c.in-Ok-Done.ensures.did in let mid = c.advance.new.self in let answer = c.in-Ok-Done.answer in
    rw (← c.self.view_is) (
      answer-of own.queries.value own.hand mid own.note.asked own.orders answer c.self.invariant (rw did at e.answered) e.same g.new.hand.client g.ensures.client,
      answers-it u mid e.same g.new.hand.client g.ensures.client answer (rw did at e.stored) (rw did at e.answered),
    )

pub returns-in-Ok-Over : goal.returns-in-Ok-Over
returns-in-Ok-Over c =
    let own = c.self.inside in let u : UnderWayOf = record { hand = own.hand; server = own.queries.value; asked = own.note.asked } in let e = c.advance.ensures in let g = c.give_up-in-Ok-Over in
    let did = rw c.in-Ok-Over.field-0-is at c.in-Ok-Over.ensures.did in
    let after = given-up-after u (record u { hand = g.new.hand }) c.advance.new.self refl refl e.underway e.planned e.same g.ensures.underway g.ensures.planned g.ensures.client in
    rw (← c.self.view_is) (after.0, after.1, (rw did at e.stepped).0)

pub returns-in-Err : goal.returns-in-Err
returns-in-Err c =
    let own = c.self.inside in let u : UnderWayOf = record { hand = own.hand; server = own.queries.value; asked = own.note.asked } in let e = c.advance.ensures in let g = c.give_up-in-Err in
    rw (← c.self.view_is) (given-up-after u (record u { hand = g.new.hand }) c.advance.new.self refl refl e.underway e.planned e.same g.ensures.underway g.ensures.planned g.ensures.client)
