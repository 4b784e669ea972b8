use Rattle.std.proofs.Common.{◌∙◌, sym, subst, arith}
use Rattle.load_rounds.specs.Sessions.{state_of}
use Rattle.load_rounds.specs.SharedRounds.{requests, joint, SharedHeadline}
use Rattle.load_rounds.proofs.Runs.{if-ok}
use Rattle.load_rounds.proofs.Stages.{finished-all, forgot-stops, stopped-all, headline-stops}
use Rattle.load_rounds.proofs.States.{on-err}
use Rattle.load_rounds.proofs.session.Session.answer_all.Goals as goal

pub returns-in_err-rounds-clause-stopped : goal.returns-in_err-rounds-clause-stopped
returns-in_err-rounds-clause-stopped g c =
    on-err c.from_residual.result (forgot-stops g.S.LocalSource.may_tell (joint g.P.Execute.program g.P.Execute.text_of c.args.plans.items) (state_of c.args.self.now) (state_of c.begin_all.new.self) c.begin_all.ensures.forgot)

pub loop-rounds-init : goal.loop-rounds-init
loop-rounds-init g c =
    let begun = c.in_ok-rounds.ensures.begun in
    record { ready = begun.ready; holds = begun.holds; is = begun.is; plans = begun.same }

pub returns-in_err-turn-clause-stopped : goal.returns-in_err-turn-clause-stopped
returns-in_err-turn-clause-stopped g c =
    let old = state_of c.args.self.now in
    on-err c.from_residual-in_err-turn.result (stopped-all g.P.Execute.program g.P.Execute.text_of g.P.Execute.loaders g.P.Execute.fits g.S.LocalSource.may_tell old (state_of c.turn.new.session) c.args.plans.items c.turn.new.self (c.turn.ensures.kept.plans ∙ c.loop-rounds.invariant.plans) (c.turn.ensures.run old c.loop-rounds.invariant.is))

pub loop-rounds-smaller : goal.loop-rounds-smaller
loop-rounds-smaller g c =
    let more = rw c.if-branch.true at c.in_ok-turn.ensures.turned in
    omega (arith, more.2, c.turn.ensures.kept.bounded)

pub loop-rounds-preserved : goal.loop-rounds-preserved
loop-rounds-preserved g c =
    let more = rw c.if-branch.true at c.in_ok-turn.ensures.turned in
    record {
      ready = more.3;
      holds = c.turn.ensures.holds;
      is = c.turn.ensures.run (state_of c.args.self.now) c.loop-rounds.invariant.is;
      plans = c.turn.ensures.kept.plans ∙ c.loop-rounds.invariant.plans;
    }

pub returns-clause-answers : goal.returns-clause-answers
returns-clause-answers g c =
    let old = state_of c.args.self.now in
    let now = state_of c.turn.new.session in
    let last = rw c.if-branch.false at c.in_ok-turn.ensures.turned in
    let headline = finished-all g.P.Execute.program g.P.Execute.text_of g.P.Execute.loaders g.P.Execute.fits g.S.LocalSource.may_tell old now c.args.plans.items c.turn.new.self (c.turn.ensures.kept.plans ∙ c.loop-rounds.invariant.plans) last.3 (c.turn.ensures.run old c.loop-rounds.invariant.is) in
    if-ok c.into_answers.result (λ answers e. subst (λ ts. SharedHeadline g.S.LocalSource.may_tell old now (requests g.P.Execute.program g.P.Execute.text_of c.args.plans.items) ts) (sym e) headline) c.into_answers.ensures

pub returns-clause-stopped : goal.returns-clause-stopped
returns-clause-stopped g c =
    let old = state_of c.args.self.now in
    let now = state_of c.turn.new.session in
    let last = rw c.if-branch.false at c.in_ok-turn.ensures.turned in
    let headline = finished-all g.P.Execute.program g.P.Execute.text_of g.P.Execute.loaders g.P.Execute.fits g.S.LocalSource.may_tell old now c.args.plans.items c.turn.new.self (c.turn.ensures.kept.plans ∙ c.loop-rounds.invariant.plans) last.3 (c.turn.ensures.run old c.loop-rounds.invariant.is) in
    on-err c.into_answers.result (headline-stops g.S.LocalSource.may_tell old now (requests g.P.Execute.program g.P.Execute.text_of c.args.plans.items) _ headline)
