use Rattle.std.proofs.Common.{length}
use Rattle.std.proofs.lemmas.Result.{IfOk-weaker}
use Rattle.gq_check.specs.Plans.{PlanOf, plan_of}
use Rattle.load_memory.specs.Pairs.{MemoryOf}
use Rattle.gq_resolve.specs.declared.output.Output.{Output}
use Rattle.gq_resolve.proofs.Advancing.{none-waits, root-searched}
use Rattle.gq_resolve.proofs.advance.search_root.Goals as goal

pub returns : goal.returns
returns c = λ rooted.
    let plan : PlanOf = plan_of c.args.walk.now.plan.now in
    let m : MemoryOf = c.args.walk.now.memory.now in
    let out : Output = c.waiting_only.result in
    IfOk-weaker c.go_over.result _ _ (λ w over. root-searched plan m w out c.waiting_only.ensures.blocked over)
    (c.go_over.ensures rooted (none-waits (length c.args.rooted.groups.items) out c.waiting_only.ensures.blocked))
