use Rattle.std.proofs.Common.{[], List, sym, subst, arith}
use Rattle.plan_walk.specs.Puts.{Put}
use Rattle.gq_resolve.specs.Pauses.{Pauses, pauses-none}
use Rattle.gq_resolve.proofs.Stopping.{no-entries, passes-back}
use Rattle.gq_resolve.proofs.pausing.PausingSink.passes.Goals as goal

pub returns-in-Onward-clause-passed : goal.returns-in-Onward-clause-passed
returns-in-Onward-clause-passed g c = λ v kind us R none.
    subst (λ (ps : List Put). Pauses g.S.Sink.goes v ps c.args.self.now c.args.self.now) (sym (no-entries kind us R none)) (pauses-none g.S.Sink.goes g.met.S.Sink.none v c.args.self.now)

pub returns-then-self-clause-passed : goal.returns-then-self-clause-passed
returns-then-self-clause-passed g c = λ v kind us R none.
    subst (λ (ps : List Put). Pauses g.S.Sink.goes v ps c.args.self.now c.args.self.now) (sym (no-entries kind us R none)) (pauses-none g.S.Sink.goes g.met.S.Sink.none v c.args.self.now)

pub returns-in-Err-clause-passed : goal.returns-in-Err-clause-passed
returns-in-Err-clause-passed g c = λ v kind us R none.
    subst (λ (ps : List Put). Pauses g.S.Sink.goes v ps c.args.self.now c.come_to.new.self) (sym (no-entries kind us R none))
    (subst (Pauses g.S.Sink.goes v [] c.args.self.now) (sym c.in-Err.ensures.kept) (pauses-none g.S.Sink.goes g.met.S.Sink.none v c.args.self.now))

pub returns-in-Ok-clause-passed : goal.returns-in-Ok-clause-passed
returns-in-Ok-clause-passed g c = λ v kind us R count.
    passes-back g.S.Sink.goes g.met.S.Sink.none v kind us R c.args.self.now c.come_to.new.self c.come_past.new.self c.before-in-Back.result c.min-passed.result c.in-Back.is c.if-self.false count c.before-in-Back.ensures (omega (arith, c.min-passed.ensures)) c.in-Ok.ensures.path c.come_to.ensures.others c.come_past.ensures.others c.come_past.ensures.turned
