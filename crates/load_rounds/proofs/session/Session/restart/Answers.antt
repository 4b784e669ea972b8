use Rattle.load_rounds.proofs.States.{restarted-session}
use Rattle.load_rounds.proofs.session.Session.restart.Goals as goal

pub invariant_of-self-2 : goal.invariant_of-self-2
invariant_of-self-2 g c =
    restarted-session c.self.inside.rounds 0 c.self.inside.loaders.items c.restart_all.new.loaders.items c.self.inside.memory c.forget_all.new.memory c.self.invariant c.forget_all.ensures.modes c.restart_all.ensures
