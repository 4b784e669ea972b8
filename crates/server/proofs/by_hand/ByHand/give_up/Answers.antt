use Rattle.server.proofs.Handing.{goes-on}
use Rattle.server.proofs.by_hand.ByHand.give_up.Goals as goal

pub returns-clause-underway : goal.returns-clause-underway
returns-clause-underway g c =
    rw (← c.self.view_is)
    (goes-on c.self.inside.queries c.self.inside.max_answer c.self.inside.limits c.self.inside.form c.self.inside.loaders c.self.inside.hand c.give_up.new.self c.give_up.ensures.kept.plans c.self.invariant.limits c.give_up.ensures.kept.limits g.S.LocalSource.may_tell c.give_up.ensures.underway)
