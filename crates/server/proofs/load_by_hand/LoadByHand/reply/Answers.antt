use Rattle.std.proofs.lemmas.Result.{on_ok_weaker, on_err_weaker}
use Rattle.std.specs.Prelude.{slice_get}
use Rattle.rounds_by_hand.specs.Hands.{pending_in}
use Rattle.server.proofs.LoadsByHand.{goes-on, goes-on-if, holds-replied, whole-replied}
use Rattle.server.proofs.load_by_hand.LoadByHand.reply.Goals as goal

pub invariant_of-self : goal.invariant_of-self
invariant_of-self g c =
    let e = c.reply.ensures in
    holds-replied c.self.inside.keys c.self.inside.queries c.self.inside.max_answer c.self.inside.limits g.S.LocalSource.may_tell c.self.inside.hand c.reply.new.self c.self.invariant e.kept
    (whole-replied c.self.inside.hand c.reply.new.self c.args.number c.args.reply c.reply.result c.self.invariant.whole e.refused e.taken)

pub returns-clause-underway : goal.returns-clause-underway
returns-clause-underway g c =
    let e = c.reply.ensures in
    rw (← c.self.view_is)
    (on_ok_weaker c.reply.result (goes-on-if c.self.inside.keys c.self.inside.queries c.self.inside.max_answer c.self.inside.limits g.S.LocalSource.may_tell c.self.inside.hand c.reply.new.self c.args.reply (slice_get (pending_in c.self.inside.hand.far) c.args.number) c.self.invariant.plans e.kept.plans c.self.invariant.unlimited e.kept.limits) e.underway)

pub returns-clause-stopped : goal.returns-clause-stopped
returns-clause-stopped g c =
    let e = c.reply.ensures in
    rw (← c.self.view_is) (on_err_weaker c.reply.result (goes-on c.self.inside.keys c.self.inside.queries c.self.inside.max_answer c.self.inside.limits g.S.LocalSource.may_tell c.self.inside.hand c.reply.new.self c.self.invariant.plans e.kept.plans c.self.invariant.unlimited e.kept.limits) e.stopped)
