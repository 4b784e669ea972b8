use Rattle.std.proofs.Common.{map}
use Rattle.load_memory.specs.Keys.{key_of}
use Rattle.load_rounds.specs.Sessions.{state_of, session_modes}
use Rattle.load_rounds.proofs.Reading.{known-already}
use Rattle.load_rounds.proofs.session.Session.known_outcomes.Goals as goal

pub copied_outcomes-requires-clause-known : goal.copied_outcomes-requires-clause-known
copied_outcomes-requires-clause-known g c =
    let s = state_of c.args.self.now in
    rw (c.memory.ensures.pairs, c.memory.ensures.modes) (known-already (session_modes s) c.args.loader (map key_of c.args.keys.now) s.memory c.requires.known)
