use Rattle.std.proofs.Common.{Option, subst}
use Rattle.std.specs.Prelude.{IfSome}
use Rattle.std.proofs.lemmas.Result.{IfOk-weaker}
use Rattle.gq_check.specs.Plans.{PlanOf}
use Rattle.gq_resolve.specs.Suspended.{IsRooted, plan_on}
use Rattle.gq_resolve.specs.declared.advance.RootObject.{RootObject}
use Rattle.gq_resolve.proofs.work.root_of.Goals as goal

pub returns-in-Some : goal.returns-in-Some
returns-in-Some c = λ prepared.
    let plan : PlanOf = plan_on c.args.walk.now in
    let rooted : IsRooted plan c.in-Some.rooted = subst (λ (o : Option RootObject). IfSome o (IsRooted plan)) c.in-Some.is prepared in
    IfOk-weaker c.copy.result (λ copy. (p : PlanOf) → IsRooted p c.in-Some.rooted → IsRooted p copy) (IsRooted plan) (λ copy copied. copied plan rooted) c.copy.ensures
