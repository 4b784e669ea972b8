use Rattle.std.proofs.Common.{◌≡◌, ◌≤◌, ◌∙◌, Bool, List, ap, length, subst, sym}
use Rattle.gq_resolve.specs.PreparedPlans.{LimitedPlanOf}
use Rattle.gq_resolve.specs.declared.root_state.RootState.{RootState}
use Rattle.rounds_by_hand.specs.Hands.{HandOf}
use Rattle.server.specs.Clients.{ClientOf, client_of}
use Rattle.server.specs.Hands.{HoldsByHand, planned_of}
use Rattle.server.specs.Planned.{PlannedOf, is_refused}
use Rattle.server.proofs.Handing.{handed-in}
use Rattle.server.proofs.client.ClientSession.by_hand.Goals as goal

pub invariant_of-result : goal.invariant_of-result
invariant_of-result g c =
    let inside = c.planned.inside in
    let session = c.self.inside.session in
    let planned : PlannedOf = planned_of inside.form inside.loaders inside.plans.items in
    let hand = c.new.result in
    let client = client_of c.self.inside.queries c.self.inside.max_answer c.self.inside.limits hand.session in
    let fits = subst (λ (p : PlannedOf). p.loaders ≤ length session.loaders) (sym c.planned.view_is) (subst (λ (x : ClientOf _). c.args.planned.loaders ≤ length x.session.loaders) (sym c.self.view_is) c.requires) in
    let held = handed-in (client_of c.self.inside.queries c.self.inside.max_answer c.self.inside.limits session) planned hand c.self.invariant c.new.ensures c.planned.invariant fits in
    let refuses : c.is_refused-is_refused.result ≡ is_refused planned = c.is_refused-is_refused.ensures ∙ ap is_refused (sym c.planned.view_is) in
    let plans = ap (λ (h : HandOf _ LimitedPlanOf RootState). h.plans) c.new.ensures in
    subst (λ (ps : List LimitedPlanOf). HoldsByHand client (planned_of inside.form inside.loaders ps) c.is_refused-is_refused.result hand) (sym plans)
    (subst (λ (r : Bool). HoldsByHand client planned r hand) (sym refuses) held)
