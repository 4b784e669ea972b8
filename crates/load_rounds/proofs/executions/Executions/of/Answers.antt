use Rattle.std.proofs.Common.{◌≡◌, ◌++◌, List, ◌∷◌, [], append_assoc, ap, ◌∙◌, sym, arith}
use Rattle.std.proofs.lemmas.List.{append-nil, map-append}
use Rattle.load_rounds.specs.Executions.{PartOf, plans_in, reports_in}
use Rattle.load_rounds.proofs.GoingOn.{begun-fits, fit-more, unreported-begun}
use Rattle.load_rounds.proofs.Running.{none-left, only}
use Rattle.load_rounds.proofs.executions.Executions.of.Goals as goal

pub returns-then-len-eq1 : goal.returns-then-len-eq1
returns-then-len-eq1 g c =
    let plan = c.in-Some.plan in
    let whole : c.args.plans.items ≡ plan ∷ [] = only c.args.plans.items c.pop.new.self.items plan c.in-Some.ensures.items (omega (arith, c.if-len-eq1.true, c.len.ensures, c.args.plans.ok.0)) in
    rw whole c.of_one.ensures

pub loop-plan-preserved : goal.loop-plan-preserved
loop-plan-preserved g c =
    let plan = c.in-Some-plan.plan in
    let rest = c.next.new.self.rest.items in
    let is : c.loop-plan.plan-iterator.rest.items ≡ plan ∷ rest = c.in-Some-plan.ensures.steps.0 in
    let was = c.loop-plan.invariant in
    let items = c.loop-plan.executions.items in
    let one = c.start.result in
    let begun = c.start.ensures in
    let put : c.push.new.self.items ≡ items ++ one ∷ [] = c.in_ok-push.ensures.items in
    record {
      same = ap (λ (ps : List (PartOf _ _)). plans_in ps ++ rest) put ∙ ap (λ ps. ps ++ rest) (map-append (λ (x : PartOf _ _). x.plan) items (one ∷ [])) ∙ append_assoc (plans_in items) (one.plan ∷ []) rest ∙ ap (λ p. plans_in items ++ (p ∷ rest)) begun.plan ∙ ap (λ ps. plans_in items ++ ps) (sym is) ∙ was.same;
      unreported = ap reports_in put ∙ unreported-begun items one begun.none ∙ was.unreported;
      fitting = λ m. rw put (fit-more g.P.Execute.program g.P.Execute.text_of g.P.Execute.loaders g.P.Execute.fits m items one (was.fitting m) (begun-fits g.P.Execute.program g.P.Execute.text_of g.P.Execute.loaders g.P.Execute.fits m plan one begun.plan begun.none (begun.fits m)));
    }

pub returns : goal.returns
returns g c =
    let was = c.loop-plan.invariant in
    let items = c.loop-plan.executions.items in
    let none : c.loop-plan.plan-iterator.rest.items ≡ [] = none-left c.loop-plan.plan-iterator.rest.items (omega (arith, c.in-None.ensures.steps.0, c.loop-plan.plan-iterator.rest.ok)) in
    record {
      same = sym (append-nil (plans_in items)) ∙ ap (λ ps. plans_in items ++ ps) (sym none) ∙ was.same;
      unreported = was.unreported;
      fitting = was.fitting;
    }
