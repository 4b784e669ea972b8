use Rattle.std.proofs.Common.{◌≤◌}
use Rattle.std.proofs.lemmas.List.Elements.{All-push}
use Rattle.gq_resolve.specs.PreparedPlans.{LimitedPlanOf}
use Rattle.server.specs.Plans.{limited_loaders}
use Rattle.server.proofs.planned.PlannedRequest.push.Goals as goal

pub invariant_of-self-in-Continue-branch-3 : goal.invariant_of-self-in-Continue-branch-3
invariant_of-self-in-Continue-branch-3 c =
    let below = λ (l : LimitedPlanOf). limited_loaders l ≤ c.self.inside.loaders in
    let own = rw (← c.self.view_is, c.in-Ok.is) at c.requires in
    rw c.in_ok-push-in-Ok-2.ensures.items (All-push below c.self.inside.plans.items _ c.self.invariant (rw c.new.ensures own))
