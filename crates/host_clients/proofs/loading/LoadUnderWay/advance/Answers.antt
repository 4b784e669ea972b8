use Rattle.std.proofs.Common.{◌∙◌, ap, map, refl, sym}
use Rattle.load_memory.specs.Outcomes.{outcome_of}
use Rattle.rounds_by_hand.specs.Pending.{order_in}
use Rattle.rounds_by_hand.specs.declared.handed_in.HandedIn.{HandedIn}
use Rattle.server.specs.Clients.{ClientOf}
use Rattle.server.specs.LoadsByHand.{LoadByHandOf}
use Rattle.host_clients.specs.Loads.{load_orders}
use Rattle.host_clients.proofs.Underway.{gives-up-load, holds-loading, loads-it, outcomes-of}
use Rattle.host_clients.proofs.loading.LoadUnderWay.advance.Goals as goal

pub invariant_of-loaded : goal.invariant_of-loaded
invariant_of-loaded c =
    let own = c.self.inside in let e = c.advance.ensures in let did = rw c.in-Ok-Done.field-0-is at c.in-Ok-Done.ensures.did in
    outcomes-of own.hand c.advance.new.self own.orders c.in-Ok-Done.outcomes c.self.invariant (rw did at e.loaded) c.idle_of.result.server
    (ap (λ (x : ClientOf HandedIn). x.server) c.idle_of.ensures.client ∙ e.same.server) c.of-snapshot.result.value.keys
    (ap (λ (l : LoadByHandOf HandedIn). l.keys) c.of-snapshot.ensures ∙ e.asked) _ (c.in-Ok.ensures ∙ ap (map outcome_of) c.deref.ensures.value)

pub invariant_of-loading : goal.invariant_of-loading
invariant_of-loading c =
    let own = c.self.inside in let e = c.advance.ensures in
    holds-loading own.hand c.advance.new.self own.orders c.stepped.new.orders e.underway e.same
    (rw c.in-Ok-Round.field-0-is at c.in-Ok-Round.ensures.orders ∙ ap (map order_in) c.orders.ensures) c.self.invariant

pub invariant_of-loading-in-Ok-Waiting : goal.invariant_of-loading-in-Ok-Waiting
invariant_of-loading-in-Ok-Waiting c =
    let own = c.self.inside in let e = c.advance.ensures in let did = rw c.in-Ok-Waiting.field-0-is at c.in-Ok-Waiting.ensures.did in let waits = (rw did at e.advanced).0 in
    holds-loading own.hand c.advance.new.self own.orders c.stepped.new.orders e.underway e.same
    (rw c.in-Ok-Waiting.field-0-is at c.in-Ok-Waiting.ensures.orders ∙ c.self.invariant.orders_are ∙ ap (λ (h : LoadByHandOf HandedIn). load_orders h) (sym waits.1)) c.self.invariant

pub returns-in-Ok : goal.returns-in-Ok
returns-in-Ok c =
    let e = c.advance.ensures in let did = rw c.in-Ok-Done.field-0-is at c.in-Ok-Done.ensures.did in
    rw (← c.self.view_is)
    (loads-it c.self.inside.hand c.advance.new.self e.asked e.same c.idle_of.result c.idle_of.ensures.client c.in-Ok-Done.outcomes c.of-snapshot.result.value.keys
    (ap (λ (l : LoadByHandOf HandedIn). l.keys) c.of-snapshot.ensures ∙ e.asked) _ (c.in-Ok.ensures ∙ ap (map outcome_of) c.deref.ensures.value) (rw did at e.advanced).0.0 (rw did at e.stored) (rw did at e.loaded))

pub returns-in-Ok-Done : goal.returns-in-Ok-Done
returns-in-Ok-Done c =
    let e = c.advance.ensures in let back = c.idle_of-in-Err-of in
    rw (← c.self.view_is) (gives-up-load c.self.inside.hand c.advance.new.self e.asked e.same back.result back.ensures.client e.underway back.ensures.stopped, refl)

pub returns-in-Ok-Round : goal.returns-in-Ok-Round
returns-in-Ok-Round c =
    let e = c.advance.ensures in let did = rw c.in-Ok-Round.field-0-is at c.in-Ok-Round.ensures.did in let moved = rw did at e.advanced in
    rw (← c.self.view_is) (record { same = e.same; stored = rw did at e.stored }, (moved.1 refl, record { same_keys = e.asked; goes_on = e.underway }, moved.0.1))

pub returns-in-Ok-Over : goal.returns-in-Ok-Over
returns-in-Ok-Over c =
    let e = c.advance.ensures in let did = rw c.in-Ok-Over.field-0-is at c.in-Ok-Over.ensures.did in let back = c.idle_of-in-Ok-Over in
    rw (← c.self.view_is) (gives-up-load c.self.inside.hand c.advance.new.self e.asked e.same back.result back.ensures.client e.underway back.ensures.stopped, (rw did at e.advanced).0.0)

pub returns : goal.returns
returns c =
    let e = c.advance.ensures in let back = c.idle_of-in-Err in
    rw (← c.self.view_is) (gives-up-load c.self.inside.hand c.advance.new.self e.asked e.same back.result back.ensures.client e.underway back.ensures.stopped, refl)

pub unreachable-requires : goal.unreachable-requires
unreachable-requires c = let did = rw c.in-Ok-Working.field-0-is at c.in-Ok-Working.ensures.did in (rw did at c.advance.ensures.advanced).2 refl
