use Rattle.std.proofs.Common.{◌≡◌, ◌∙◌, subst, sym, rules}
use Rattle.std.specs.Arc.{arc_value}
use Rattle.gq_check.specs.Plans.{PlanParts, plan_of}
use Rattle.std.specs.Prelude.{Result, String}
use Rattle.std.specs.Global.{Global}
use Rattle.plan_requests.specs.Planning.{HasOperation, PlansRequest}
use Rattle.request_line.specs.Seen.{request_of}
use Rattle.server.specs.Kept.{HasNoVariables}
use Rattle.server.proofs.Keeping.{kept-itself}
use Rattle.server.proofs.request_cache.RequestCache.prepare_again.Goals as goal

pub returns-then-has_no_variables-clause-prepared : goal.returns-then-has_no_variables-clause-prepared
returns-then-has_no_variables-clause-prepared c =
    let r = request_of c.args.request.now in
    let own : c.plan.result.now ≡ arc_value c.args.kept = c.plan.ensures ∙ c.deref.ensures in
    kept-itself c.args.self.now.server r (arc_value c.args.kept) c.requires (subst (HasNoVariables r) own (c.has_no_variables.ensures (search rules)))

pub returns-in-Err-clause-prepared : goal.returns-in-Err-clause-prepared
returns-in-Err-clause-prepared c =
    let s = c.args.self.now.server in
    let r = request_of c.args.request.now in
    let own : arc_value c.args.kept ≡ c.plan-2.result.now = sym (c.plan-2.ensures ∙ c.deref-2.ensures) in
    let has : HasOperation s r (plan_of c.plan-2.result.now) = subst (λ (p : PlanParts). HasOperation s r (plan_of p)) own c.requires in
    subst (λ (found : Result PlanParts (String Global)). PlansRequest s r found) c.in-Err.is (c.in_ok-text.ensures.plans s has)

pub returns-in-Some-clause-prepared : goal.returns-in-Some-clause-prepared
returns-in-Some-clause-prepared c =
    let s = c.args.self.now.server in
    let r = request_of c.args.request.now in
    let own : arc_value c.args.kept ≡ c.plan-2.result.now = sym (c.plan-2.ensures ∙ c.deref-2.ensures) in
    let has : HasOperation s r (plan_of c.plan-2.result.now) = subst (λ (p : PlanParts). HasOperation s r (plan_of p)) own c.requires in
    let planned = subst (λ (found : Result PlanParts (String Global)). PlansRequest s r found) c.in-Ok.is (c.in_ok-text.ensures.plans s has) in
    let shared : arc_value c.in-Some.plan ≡ c.in-Ok.plan = rw c.in-Some.is at c.in_ok-plan.ensures in
    rw shared planned
