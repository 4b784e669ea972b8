use Rattle.std.proofs.Common.{List, subst, sym}
use Rattle.std.specs.Prelude.{IfSome, OnOk, slice_get}
use Rattle.std.proofs.lemmas.Result.{on_err_weaker}
use Rattle.gq_resolve.specs.PreparedPlans.{LimitedPlanOf}
use Rattle.rounds_by_hand.specs.Hands.{pending_in}
use Rattle.server.specs.Hands.{GoesOnIfMay, planned_of}
use Rattle.server.proofs.Handing.{goes-if-may, goes-on, held, stays-held, was-held}
use Rattle.server.proofs.by_hand.ByHand.reply.Goals as goal

pub returns-clause-underway : goal.returns-clause-underway
returns-clause-underway g c =
    let hand = c.self.inside.hand in
    let form = c.self.inside.form in
    let planned = planned_of form c.self.inside.loaders hand.plans in
    let was = was-held c.self.inside.queries c.self.inside.max_answer c.self.inside.limits form c.self.inside.loaders hand c.reply.new.self c.reply.ensures.kept.plans c.self.invariant.limits c.reply.ensures.kept.limits in
    let is = stays-held c.self.inside.queries c.self.inside.max_answer c.self.inside.limits form c.self.inside.loaders hand c.reply.new.self c.reply.ensures.kept.plans c.self.invariant.limits c.reply.ensures.kept.limits in
    let went = goes-if-may c.self.inside.queries c.self.inside.max_answer c.self.inside.limits planned g.S.LocalSource.may_tell c.reply.result (slice_get (pending_in hand.far) c.args.number) c.args.reply hand c.reply.new.self was is c.reply.ensures.underway in
    rw (← c.self.view_is)
    (subst (λ (ps : List LimitedPlanOf). OnOk c.reply.result (IfSome (slice_get (pending_in hand.far) c.args.number) (GoesOnIfMay g.S.LocalSource.may_tell c.args.reply (held c.self.inside.queries c.self.inside.max_answer c.self.inside.limits planned hand) (held c.self.inside.queries c.self.inside.max_answer c.self.inside.limits (planned_of form c.self.inside.loaders ps) c.reply.new.self))))
    (sym c.reply.ensures.kept.plans) went)

pub returns-clause-stopped : goal.returns-clause-stopped
returns-clause-stopped g c =
    rw (← c.self.view_is)
    (on_err_weaker c.reply.result
    (goes-on c.self.inside.queries c.self.inside.max_answer c.self.inside.limits c.self.inside.form c.self.inside.loaders c.self.inside.hand c.reply.new.self c.reply.ensures.kept.plans c.self.invariant.limits c.reply.ensures.kept.limits g.S.LocalSource.may_tell)
    c.reply.ensures.stopped)
