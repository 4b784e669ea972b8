use Rattle.std.proofs.Common.{length, refl, ap, ◌∙◌, Vec, Global}
use Rattle.load_memory.specs.Pairs.{MemoryOf}
use Rattle.gq_check.specs.Plans.{PlanOf, plan_of}
use Rattle.plan_walk.specs.declared.loading_fields.Member.{Member}
use Rattle.gq_resolve.specs.Suspended.{IsRooted}
use Rattle.gq_resolve.specs.declared.advance.RootObject.{RootObject}
use Rattle.gq_resolve.specs.declared.advance.FinishedWalk.{FinishedWalk}
use Rattle.gq_resolve.specs.declared.output.Output.{Output}
use Rattle.gq_resolve.proofs.Advancing.{over-root, none-waits, still-waits, answer-written}
use Rattle.gq_resolve.proofs.advance.begin.Goals as goal
use Rattle.gq_resolve.proofs.advance.begin.Goals.{then-not-is_empty+then-is_empty+in_ok-searched+else-not-is_empty-2, else-not-is_empty}

pub returns-then-not-is_empty-2 : goal.returns-then-not-is_empty-2
returns-then-not-is_empty-2 c = λ rooted. still-waits (plan_of c.args.walk.now.plan.now) c.args.walk.now.memory.now c.args.most c.in_ok-searched.searched (λ none. cc (c.if-not-is_empty-2.ensures.1 none)) (c.in_ok-searched.ensures rooted)

pub returns : goal.returns
returns c = λ rooted.
    let plan : PlanOf = plan_of c.args.walk.now.plan.now in
    let m : MemoryOf = c.args.walk.now.memory.now in
    let old : RootObject = c.if-not-is_empty.rooted in
    let out : Output = c.in_ok-new.field-0 in
    let walked : FinishedWalk Output = record { rooted = record { members = old.members; row = old.row; groups = c.object.new.at.groups }; out = c.object.new.at.out } in
    let begun : IsRooted plan old = elim c.if-not-is_empty.branch [
      | then-not-is_empty+then-is_empty+in_ok-searched+else-not-is_empty-2 w ↦ rw w.rooted-is (w.in_ok-searched.ensures rooted).goes_on.rooted
      | else-not-is_empty w ↦ rw w.rooted-is rooted
    ] in
    answer-written plan m c.args.most walked out c.in_ok-new.ensures.blocked c.in_ok-new.ensures.loads c.in_ok-new.ensures.text
    (over-root plan m old c.deref-2.result.now _ c.object.new.at refl (c.deref-2.ensures.value ∙ ap (λ (v : Vec Member Global). v.items) c.deref.ensures) begun (none-waits (length old.groups.items) out c.in_ok-new.ensures.blocked) c.in_ok-object.ensures)
