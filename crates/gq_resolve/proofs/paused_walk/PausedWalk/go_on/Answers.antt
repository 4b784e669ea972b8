use Rattle.std.proofs.Common.{◌≡◌, ◌+◌, refl, sym, subst, length, arith}
use Rattle.load_memory.proofs.LoaderMemoryLaws.{SomeIff-at}
use Rattle.gq_resolve.specs.Suspended.{plan_on}
use Rattle.gq_resolve.proofs.Resuming.{stays-whole, resumed}
use Rattle.gq_resolve.proofs.paused_walk.PausedWalk.go_on.Goals as goal

pub returns-then-is_whole : goal.returns-then-is_whole
returns-then-is_whole g c = λ taken rest h below. stays-whole g.S.Sink.goes (plan_on c.args.walk.now) c.args.walk.now.memory.now c.args.steps c.args.self g.met.S.Sink.none taken rest h (c.if-is_whole.ensures.0 refl)

pub returns : goal.returns
returns g c = λ taken rest h below.
    let sum : c.in_ok-taken.taken ≡ c.args.self.taken + c.saturating_sub-used.result = SomeIff-at c.checked_add.result _ _ _ c.in_ok-taken.ensures.ok_part c.checked_add.ensures in
    let over = c.in_ok-rooted.ensures h.rooted (subst (g.S.Sink.below (length c.args.self.rooted.groups.items)) (sym c.go_on.ensures.out) below) in
    resumed g.S.Sink.goes (plan_on c.args.walk.now) c.args.walk.now.memory.now c.args.steps c.args.self taken rest c.go_on.new.self c.in_ok-rooted.field-0 c.in_ok-taken.taken
    (omega (arith, sum, c.saturating_sub-used.ensures)) h (λ e. cc (c.if-is_whole.ensures.1 e)) c.go_on.ensures.out c.go_on.ensures.course c.go_on.ensures.point c.go_on.ensures.goal c.go_on.ensures.steps over
