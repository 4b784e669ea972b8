use Rattle.std.proofs.Common.{map}
use Rattle.load_memory.specs.Replies.{reply_of}
use Rattle.load_rounds.proofs.Runs.{received-session, received-state}
use Rattle.load_rounds.proofs.session.Session.receive_owned.Goals as goal

pub invariant_of-self-2 : goal.invariant_of-self-2
invariant_of-self-2 g c = received-session c.self.inside.rounds c.self.inside.loaders.items c.mark_all.new.loaders.items c.self.inside.memory c.keep_owned.new.self c.self.invariant c.keep_owned.ensures.modes c.mark_all.ensures

pub returns-clause-received : goal.returns-clause-received
returns-clause-received g c =
    rw (← c.self.view_is) (received-state c.self.inside.rounds c.self.inside.loaders.items c.mark_all.new.loaders.items c.self.inside.memory c.keep_owned.new.self (map reply_of c.args.replies.items) c.self.invariant c.in_ok-keep_owned.ensures.pairs c.mark_all.ensures)
