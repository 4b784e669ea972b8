use Rattle.std.proofs.Common.{◌≡◌, ◌∙◌, Some, None, sym, subst, arith}
use Rattle.load_rounds.specs.Sessions.{state_of}
use Rattle.load_rounds.specs.SharedRounds.{IsAnsweredAlone, request_of, report_of}
use Rattle.load_rounds.proofs.KeyByKey.{some-same}
use Rattle.load_rounds.proofs.Stages.{answered-one, stopped-one}
use Rattle.load_rounds.proofs.States.{on-err}
use Rattle.load_rounds.proofs.session.Session.answer.Goals as goal

pub loop-rounds-init : goal.loop-rounds-init
loop-rounds-init g c =
    let begun = c.begin-rounds.ensures.begun in
    record { ready = begun.ready; holds = begun.holds; is = begun.is; plans = begun.same }

pub returns-in_err-turn-clause-stopped : goal.returns-in_err-turn-clause-stopped
returns-in_err-turn-clause-stopped g c =
    let old = state_of c.args.self.now in
    on-err c.from_residual.result (stopped-one g.P.Execute.program g.P.Execute.text_of g.P.Execute.loaders g.P.Execute.fits g.S.LocalSource.may_tell old (state_of c.turn.new.session) c.args.plan.now c.turn.new.self (c.turn.ensures.kept.plans ∙ c.loop-rounds.invariant.plans) (c.turn.ensures.run old c.loop-rounds.invariant.is))

pub loop-rounds-smaller : goal.loop-rounds-smaller
loop-rounds-smaller g c =
    let more = rw c.if-branch.true at c.in_ok-turn.ensures.turned in
    omega (arith, more.2, c.turn.ensures.kept.bounded)

pub loop-rounds-preserved : goal.loop-rounds-preserved
loop-rounds-preserved g c =
    let more = rw c.if-branch.true at c.in_ok-turn.ensures.turned in
    record {
      ready = more.3;
      holds = c.turn.ensures.holds;
      is = c.turn.ensures.run (state_of c.args.self.now) c.loop-rounds.invariant.is;
      plans = c.turn.ensures.kept.plans ∙ c.loop-rounds.invariant.plans;
    }

pub unreachable-requires : goal.unreachable-requires
unreachable-requires g c =
    let old = state_of c.args.self.now in
    let last = rw c.if-branch.false at c.in_ok-turn.ensures.turned in
    let done = answered-one g.P.Execute.program g.P.Execute.text_of g.P.Execute.loaders g.P.Execute.fits g.S.LocalSource.may_tell old (state_of c.turn.new.session) c.args.plan.now c.turn.new.self (c.turn.ensures.kept.plans ∙ c.loop-rounds.invariant.plans) last.3 (c.turn.ensures.run old c.loop-rounds.invariant.is) in
    let none : None ≡ Some done.0 = rw c.in-None.is at c.into_answer.ensures ∙ done.1 in
    cc none

pub returns-clause-answer : goal.returns-clause-answer
returns-clause-answer g c =
    let old = state_of c.args.self.now in
    let now = state_of c.turn.new.session in
    let plan = c.args.plan.now in
    let last = rw c.if-branch.false at c.in_ok-turn.ensures.turned in
    let done = answered-one g.P.Execute.program g.P.Execute.text_of g.P.Execute.loaders g.P.Execute.fits g.S.LocalSource.may_tell old now plan c.turn.new.self (c.turn.ensures.kept.plans ∙ c.loop-rounds.invariant.plans) last.3 (c.turn.ensures.run old c.loop-rounds.invariant.is) in
    let same : report_of c.in-Some.answer ≡ done.0 = some-same (report_of c.in-Some.answer) done.0 (rw c.in-Some.is at c.into_answer.ensures ∙ done.1) in
    subst (IsAnsweredAlone g.S.LocalSource.may_tell old now (request_of (g.P.Execute.program plan) (g.P.Execute.text_of plan))) (sym same) done.2
