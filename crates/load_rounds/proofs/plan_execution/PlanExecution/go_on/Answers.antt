use Rattle.std.proofs.Common.{refl}
use Rattle.std.specs.Prelude.{option_map}
use Rattle.load_rounds.specs.SharedRounds.{report_of}
use Rattle.load_rounds.proofs.GoingOn.{report-is, unreported-is, part-kept, part-front, part-ready, part-waits, part-fits}
use Rattle.load_rounds.proofs.plan_execution.PlanExecution.go_on.Goals as goal

pub returns-then-is_some-clause-went : goal.returns-then-is_some-clause-went
returns-then-is_some-clause-went g c =
    let self = c.self.inside in
    let there = report-is self.answer c.is_some.result c.is_some.ensures c.if-is_some.true in
    let fit = rw (← c.self.view_is) at c.requires.fits in
    rw (← c.self.view_is) (part-kept g.P.Execute.program g.P.Execute.text_of g.P.Execute.loaders g.P.Execute.fits c.args.rounds c.args.memory.now self.plan self.progress c.start.result (option_map report_of self.answer) there c.start.ensures fit)

pub returns-then-is_some-clause-wanted : goal.returns-then-is_some-clause-wanted
returns-then-is_some-clause-wanted g c =
    let self = c.self.inside in
    let there = report-is self.answer c.is_some.result c.is_some.ensures c.if-is_some.true in
    let fit = rw (← c.self.view_is) at c.requires.fits in
    let none = part-front g.P.Execute.program g.P.Execute.text_of g.P.Execute.loaders g.P.Execute.fits c.args.rounds c.args.memory.now self.plan self.progress (option_map report_of self.answer) there fit in
    rw (← c.self.view_is, none) refl

pub execute-requires : goal.execute-requires
execute-requires g c =
    let self = c.self.inside in
    let can = rw (← c.self.view_is) at c.requires.can in
    let fit = rw (← c.self.view_is) at c.requires.fits in
    record { can = can; fits = part-fits g.P.Execute.program g.P.Execute.text_of g.P.Execute.loaders g.P.Execute.fits c.args.rounds c.args.memory.now self.plan self.progress (option_map report_of self.answer) fit }

pub returns-in-Ready-clause-went : goal.returns-in-Ready-clause-went
returns-in-Ready-clause-went g c =
    let self = c.self.inside in
    let none = unreported-is self.answer c.is_some.result c.is_some.ensures c.if-is_some.false in
    let done = rw c.in-Ready.is at c.in_ok-result.ensures.executed in
    rw (← c.self.view_is) (part-ready g.P.Execute.program g.P.Execute.text_of g.P.Execute.loaders g.P.Execute.fits c.args.rounds c.args.memory.now self.plan self.progress c.execute.new.progress (option_map report_of self.answer) (report_of (record { text = c.in-Ready.result.text; rounds = c.args.rounds; loads = c.in-Ready.result.loads })) none refl done.0 done.1 done.2 c.in_ok-result.ensures.fits c.in_ok-result.ensures.within)

pub returns-in-Ready-clause-wanted : goal.returns-in-Ready-clause-wanted
returns-in-Ready-clause-wanted g c =
    let done = rw c.in-Ready.is at c.in_ok-result.ensures.executed in
    rw (← c.self.view_is, done.0) done.3

pub returns-in-Pending-clause-went : goal.returns-in-Pending-clause-went
returns-in-Pending-clause-went g c =
    let self = c.self.inside in
    let none = unreported-is self.answer c.is_some.result c.is_some.ensures c.if-is_some.false in
    let lacks = rw c.in-Pending.is at c.in_ok-result.ensures.executed in
    rw (← c.self.view_is) (part-waits g.P.Execute.program g.P.Execute.text_of g.P.Execute.loaders g.P.Execute.fits c.args.rounds c.args.memory.now self.plan self.progress c.execute.new.progress (option_map report_of self.answer) none lacks.0 c.in_ok-result.ensures.fits c.in_ok-result.ensures.within)

pub returns-in-Pending-clause-wanted : goal.returns-in-Pending-clause-wanted
returns-in-Pending-clause-wanted g c =
    let lacks = rw c.in-Pending.is at c.in_ok-result.ensures.executed in
    rw (← c.self.view_is) lacks.1
