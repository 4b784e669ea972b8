use Rattle.std.proofs.Common.{◌∙◌, ap}
use Rattle.rounds_by_hand.specs.Hands.{IsOver, pending_in}
use Rattle.rounds_by_hand.specs.declared.handed_in.HandedIn.{HandedIn}
use Rattle.server.specs.Clients.{ClientOf}
use Rattle.server.specs.LoadsByHand.{LoadByHandOf}
use Rattle.host_clients.specs.declared.client.HostClient.TheVariants.{Loading}
use Rattle.host_clients.proofs.Underway.{goes-on, holds-loading, orders-are, takes-it}
use Rattle.host_clients.proofs.loading.LoadUnderWay.take.Goals as goal

pub invariant_of-self : goal.invariant_of-self
invariant_of-self c =
    let own = c.self.inside in let e = c.reply.ensures in let old = pending_in own.hand.far in let new = pending_in c.reply.new.self.far in
    holds-loading own.hand c.reply.new.self own.orders c.taken.new.orders
    (goes-on old new c.args.number c.args.reply own.hand.client.session.loaders c.reply.result e.taken e.underway e.stopped)
    (record {
      server = ap (λ (x : ClientOf HandedIn). x.server) e.client;
      most = ap (λ (x : ClientOf HandedIn). x.most) e.client;
      limits = ap (λ (x : ClientOf HandedIn). x.limits) e.client;
    })
    (c.taken.ensures.orders ∙ orders-are old new c.args.number c.args.reply own.hand c.reply.new.self (IsOver c.reply.new.self.far) c.reply.result own.orders c.self.invariant.orders_are e.taken e.refused
    (λ is. ap (λ (h : LoadByHandOf HandedIn). pending_in h.far) is) (λ over. ap pending_in over))
    c.self.invariant

pub returns : goal.returns
returns c =
    let own = c.self.inside in let e = c.reply.ensures in let old = pending_in own.hand.far in let new = pending_in c.reply.new.self.far in
    rw (← c.self.view_is, c.taken.ensures.same)
    (takes-it (λ (h : LoadByHandOf HandedIn). Loading h) own.hand c.reply.new.self c.args.number c.args.reply c.reply.result e.refused e.taken
    (record { same_keys = e.asked; goes_on = goes-on old new c.args.number c.args.reply own.hand.client.session.loaders c.reply.result e.taken e.underway e.stopped })
    e.client (λ over. over))
