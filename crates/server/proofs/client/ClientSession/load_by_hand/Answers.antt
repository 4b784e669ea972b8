use Rattle.server.proofs.LoadsByHand.{holds-new}
use Rattle.server.proofs.client.ClientSession.load_by_hand.Goals as goal

pub invariant_of-result : goal.invariant_of-result
invariant_of-result g c =
    rw (c.new.ensures, c.none.ensures)
    (holds-new c.planned.inside.keys c.self.inside.queries c.self.inside.session c.planned.inside.plans.items c.self.invariant c.planned.invariant c.memory-memory.ensures.limited (rw (← c.planned.view_is) at (rw (← c.self.view_is) at c.requires)))
