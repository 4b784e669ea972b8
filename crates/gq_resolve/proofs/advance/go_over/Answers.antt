use Rattle.std.proofs.Common.{refl, ap, ◌∙◌, Vec, Global}
use Rattle.plan_walk.specs.declared.loading_fields.Member.{Member}
use Rattle.gq_check.specs.Plans.{plan_of}
use Rattle.gq_resolve.proofs.Advancing.{over-root}
use Rattle.gq_resolve.proofs.advance.go_over.Goals as goal

pub returns : goal.returns
returns g c = λ rooted below.
    over-root (plan_of c.args.walk.now.plan.now) c.args.walk.now.memory.now c.args.rooted c.deref-2.result.now _ c.object.new.at refl (c.deref-2.ensures.value ∙ ap (λ (v : Vec Member Global). v.items) c.deref.ensures) rooted below c.in_ok-object.ensures
