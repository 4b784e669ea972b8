use Rattle.std.proofs.Common.{◌≡◌, ◌∙◌, Some, None, ap, sym, subst, refl}
use Rattle.load_rounds.specs.Sessions.{state_of}
use Rattle.load_rounds.specs.SharedRounds.{ReportOf, IsAnsweredAlone, request_of, report_of}
use Rattle.load_rounds.specs.Answerings.{far_of}
use Rattle.load_rounds.proofs.KeyByKey.{some-same}
use Rattle.load_rounds.proofs.Polls.{poll-ran}
use Rattle.load_rounds.proofs.Stages.{answered-one, stopped-one}
use Rattle.load_rounds.proofs.answering.AnsweringFuture.poll.Goals as goal

pub unreachable-requires : goal.unreachable-requires
unreachable-requires g c =
    let may = g.S.LocalSource.may_tell in
    let plan = c.self.inside.plan.now in
    let run = c.begin-session.result.1 in
    let later = c.turn.new.self in
    let now = state_of c.turn.new.session in
    let start = rw c.replace-far.ensures.value at c.begin-session.ensures in
    let plans = c.turn.ensures.kept.plans ∙ start.can.plans in
    let turned = rw c.in-Ok-false.field-0-test at c.in-Ok-false.ensures.turned in
    let done = answered-one g.P.Execute.program g.P.Execute.text_of g.P.Execute.loaders g.P.Execute.fits may start.can.old now plan later plans turned.3 (c.in-Ok-false.ensures.run start.can.old start.can.is) in
    let none : None ≡ Some done.0 = rw c.in-None.is at c.into_answer.ensures ∙ done.1 in
    cc none

pub returns-in-Ok-true-clause-again : goal.returns-in-Ok-true-clause-again
returns-in-Ok-true-clause-again g c =
    let run = c.begin-session.result.1 in
    let start = rw c.replace-far.ensures.value at c.begin-session.ensures in
    let plans = c.turn.ensures.kept.plans ∙ start.can.plans in
    let turned = rw c.in-Ok-true.field-0-test at c.in-Ok-true.ensures.turned in
    rw c.yield_now.ensures.pending (record { plans = plans; ready = turned.3; holds = c.turn.ensures.holds; old = start.can.old; is = c.in-Ok-true.ensures.run start.can.old start.can.is })

pub returns-in-Ok-true-clause-same : goal.returns-in-Ok-true-clause-same
returns-in-Ok-true-clause-same g c =
    let start = rw c.replace-far.ensures.value at c.begin-session.ensures in
    rw (← c.self.view_is, c.yield_now.ensures.pending) (λ out gives old underway. gives old (c.in-Ok-true.ensures.run old (start.since old underway)))

pub returns-in-Ok-true-clause-polled : goal.returns-in-Ok-true-clause-polled
returns-in-Ok-true-clause-polled g c =
    let may = g.S.LocalSource.may_tell in
    let plan = c.self.inside.plan.now in
    let run = c.begin-session.result.1 in
    let later = c.turn.new.self in
    let start = rw c.replace-far.ensures.value at c.begin-session.ensures in
    let plans = c.turn.ensures.kept.plans ∙ start.can.plans in
    let turned = rw c.in-Ok-true.field-0-test at c.in-Ok-true.ensures.turned in
    rw (← c.self.view_is, c.yield_now.ensures.pending) (record {
      plan = refl;
      round = poll-ran g.P.Execute.program g.P.Execute.text_of g.P.Execute.loaders g.P.Execute.fits may plan (far_of c.self.inside.far) c.begin-session.result.0 c.turn.new.session run later start c.turn.ensures.kept.plans turned (λ old is. c.in-Ok-true.ensures.run old is) c.in-Ok-true.ensures.may;
      yielded = c.yield_now.ensures.woken;
      counted = tt;
      asks_nothing = tt;
    })

pub returns-in-Some-clause-value : goal.returns-in-Some-clause-value
returns-in-Some-clause-value g c =
    let may = g.S.LocalSource.may_tell in
    let plan = c.self.inside.plan.now in
    let run = c.begin-session.result.1 in
    let later = c.turn.new.self in
    let now = state_of c.turn.new.session in
    let start = rw c.replace-far.ensures.value at c.begin-session.ensures in
    let plans = c.turn.ensures.kept.plans ∙ start.can.plans in
    let turned = rw c.in-Ok-false.field-0-test at c.in-Ok-false.ensures.turned in
    rw (← c.self.view_is) (λ old underway.
    let done = answered-one g.P.Execute.program g.P.Execute.text_of g.P.Execute.loaders g.P.Execute.fits may old now plan later plans turned.3 (c.in-Ok-false.ensures.run old (start.since old underway)) in
    let same : report_of c.in-Some.answer ≡ done.0 = some-same (report_of c.in-Some.answer) done.0 (rw c.in-Some.is at c.into_answer.ensures ∙ done.1) in
    (subst (IsAnsweredAlone may old now (request_of (g.P.Execute.program plan) (g.P.Execute.text_of plan))) (sym same) done.2, tt))

pub returns-in-Some-clause-polled : goal.returns-in-Some-clause-polled
returns-in-Some-clause-polled g c =
    let may = g.S.LocalSource.may_tell in
    let plan = c.self.inside.plan.now in
    let run = c.begin-session.result.1 in
    let later = c.turn.new.self in
    let now = state_of c.turn.new.session in
    let start = rw c.replace-far.ensures.value at c.begin-session.ensures in
    let plans = c.turn.ensures.kept.plans ∙ start.can.plans in
    let turned = rw c.in-Ok-false.field-0-test at c.in-Ok-false.ensures.turned in
    let done = answered-one g.P.Execute.program g.P.Execute.text_of g.P.Execute.loaders g.P.Execute.fits may start.can.old now plan later plans turned.3 (c.in-Ok-false.ensures.run start.can.old start.can.is) in
    let same : report_of c.in-Some.answer ≡ done.0 = some-same (report_of c.in-Some.answer) done.0 (rw c.in-Some.is at c.into_answer.ensures ∙ done.1) in
    rw (← c.self.view_is) (record {
      plan = refl;
      round = tt;
      yielded = tt;
      counted = ap (λ (t : ReportOf). t.rounds) same ∙ done.3 ∙ turned.2 ∙ start.rounds;
      asks_nothing = start.begins ∙ ap Some (sym turned.1);
    })

pub returns-in-Err-clause-value : goal.returns-in-Err-clause-value
returns-in-Err-clause-value g c =
    let may = g.S.LocalSource.may_tell in
    let plan = c.self.inside.plan.now in
    let run = c.begin-session.result.1 in
    let later = c.turn.new.self in
    let now = state_of c.turn.new.session in
    let start = rw c.replace-far.ensures.value at c.begin-session.ensures in
    let plans = c.turn.ensures.kept.plans ∙ start.can.plans in
    rw (← c.self.view_is) (λ old underway. (tt, stopped-one g.P.Execute.program g.P.Execute.text_of g.P.Execute.loaders g.P.Execute.fits may old now plan later plans (c.in-Err.ensures.run old (start.since old underway))))
