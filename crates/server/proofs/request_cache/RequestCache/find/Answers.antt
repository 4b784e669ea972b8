use Rattle.std.proofs.Common.{◌≡◌, ◌∙◌, Option, Some, ap, subst, sym}
use Rattle.std.specs.Arc.{arc_value}
use Rattle.std.specs.Option.{option_copied}
use Rattle.std.specs.Prelude.{IfSome}
use Rattle.gq_check.specs.Plans.{PlanParts, plan_of}
use Rattle.plan_requests.specs.Planning.{HasOperation}
use Rattle.request_line.specs.Keys.{IsKey}
use Rattle.text_cache.specs.TextCaches.{find}
use Rattle.server.specs.Kept.{IsPlanAt, RequestCacheOf, SharedPlan}
use Rattle.server.proofs.Keeping.{kept-operation}
use Rattle.server.proofs.request_cache.RequestCache.find.Goals as goal

pub returns-in_ok-try_clone-in-Some : goal.returns-in_ok-try_clone-in-Some
returns-in_ok-try_clone-in-Some c = λ request is.
    let s = c.self.inside.documents.server in
    let key = c.deref.result.now in
    let shared = c.in-Some.plan.now in
    let clone = c.in_ok-try_clone-in-Some.field-0 in
    let found : find c.self.inside.plans key ≡ Some shared = sym c.get.ensures ∙ ap option_copied c.in-Some.is in
    let own : IsPlanAt s key (arc_value shared) = subst (λ (o : Option SharedPlan). IfSome o (λ plan. IsPlanAt s key (arc_value plan))) found (c.self.invariant.each key) in
    let has : IsKey key request = rw c.deref.ensures (subst (λ (x : RequestCacheOf). IsKey x.key request) (sym c.self.view_is) is) in
    let same : HasOperation s request (plan_of (arc_value shared)) = kept-operation s key request (arc_value shared) has own in
    let cloned = subst (λ (p : PlanParts). HasOperation s request (plan_of p)) (sym c.in_ok-try_clone-in-Some.ensures) same in
    subst (λ (x : RequestCacheOf). HasOperation x.server request (plan_of (arc_value clone))) c.self.view_is cloned
