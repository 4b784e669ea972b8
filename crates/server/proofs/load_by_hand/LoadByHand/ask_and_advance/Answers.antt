use Rattle.std.proofs.lemmas.Option.{IfSome_then}
use Rattle.std.proofs.lemmas.Result.{IfOk-weaker}
use Rattle.rounds_by_hand.specs.Progress.{done_in}
use Rattle.server.proofs.LoadsByHand.{asks-advances, done-lacks-none, goes-on, holds-after, loads-keys, whole-after, within-after}
use Rattle.server.proofs.load_by_hand.LoadByHand.ask_and_advance.Goals as goal

pub invariant_of-self : goal.invariant_of-self
invariant_of-self g c =
    let e = c.ask_and_advance.ensures in
    holds-after c.self.inside.keys c.self.inside.queries c.self.inside.max_answer c.self.inside.limits g.S.LocalSource.may_tell c.self.inside.hand c.ask_and_advance.new.self c.self.invariant e.kept
    (whole-after c.self.inside.keys c.self.inside.queries c.self.inside.max_answer c.self.inside.limits g.S.LocalSource.may_tell c.self.inside.hand c.ask_and_advance.new.self c.self.invariant e.kept c.ask_and_advance.result e.advanced e.working e.over)

pub returns-in-Err-NoMemory-clause-underway : goal.returns-in-Err-NoMemory-clause-underway
returns-in-Err-NoMemory-clause-underway g c =
    let e = c.ask_and_advance.ensures in
    rw (← c.self.view_is) (goes-on c.self.inside.keys c.self.inside.queries c.self.inside.max_answer c.self.inside.limits g.S.LocalSource.may_tell c.self.inside.hand c.ask_and_advance.new.self c.self.invariant.plans e.kept.plans c.self.invariant.unlimited e.kept.limits e.underway)

pub try_map-requires : goal.try_map-requires
try_map-requires g c =
    let e = c.in-Ok.ensures in
    let new = c.ask_and_advance.new.self in
    let within = within-after c.self.inside.keys c.self.inside.queries c.self.inside.max_answer c.self.inside.limits g.S.LocalSource.may_tell c.self.inside.hand new c.self.invariant c.ask_and_advance.ensures.kept in
    let none = done-lacks-none c.self.inside.keys c.self.inside.queries c.self.inside.max_answer c.self.inside.limits g.S.LocalSource.may_tell c.self.inside.hand new c.self.invariant e.kept c.in-Ok.did e.answers e.advanced e.stored in
    IfSome_then (done_in c.in-Ok.did) none (λ answers lacks. (rw c.session-session.ensures within, rw c.session-session.ensures lacks))

pub returns-clause-advanced : goal.returns-clause-advanced
returns-clause-advanced g c =
    let e = c.in-Ok.ensures in
    rw (← c.self.view_is)
    (IfOk-weaker c.try_map.result _ _ (λ told is. asks-advances c.self.inside.keys c.self.inside.queries c.self.inside.max_answer c.self.inside.limits g.S.LocalSource.may_tell c.self.inside.hand c.ask_and_advance.new.self c.self.invariant e.kept c.in-Ok.did told (rw c.session-session.ensures at is) e.stored e.working e.advanced) c.try_map.ensures.made)

pub returns-clause-underway : goal.returns-clause-underway
returns-clause-underway g c =
    let e = c.ask_and_advance.ensures in
    rw (← c.self.view_is) (goes-on c.self.inside.keys c.self.inside.queries c.self.inside.max_answer c.self.inside.limits g.S.LocalSource.may_tell c.self.inside.hand c.ask_and_advance.new.self c.self.invariant.plans e.kept.plans c.self.invariant.unlimited e.kept.limits e.underway)

pub returns-clause-loaded : goal.returns-clause-loaded
returns-clause-loaded g c =
    let e = c.in-Ok.ensures in
    rw (← c.self.view_is)
    (IfOk-weaker c.try_map.result _ _ (λ told is. loads-keys c.self.inside.keys c.self.inside.queries c.self.inside.max_answer c.self.inside.limits g.S.LocalSource.may_tell c.self.inside.hand c.ask_and_advance.new.self c.self.invariant e.kept c.in-Ok.did told (rw c.session-session.ensures at is) e.answers) c.try_map.ensures.made)
