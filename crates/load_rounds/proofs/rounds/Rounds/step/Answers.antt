use Rattle.std.proofs.Common.{refl, ap, ◌∙◌, inl}
use Rattle.load_rounds.specs.Sessions.{state_of}
use Rattle.load_rounds.specs.Executions.{plans_in, told_in}
use Rattle.load_rounds.specs.Runs.{RunOf}
use Rattle.load_rounds.proofs.Stages.{fails}
use Rattle.load_rounds.proofs.WorkingAhead.{still-ready}
use Rattle.load_rounds.proofs.rounds.Rounds.step.Goals as goal

pub returns-in_err-ahead-clause-run : goal.returns-in_err-ahead-clause-run
returns-in_err-ahead-clause-run g c =
    let X = g.P.Execute in
    let now = state_of c.args.session.now in
    let did = c.in_err-ahead.ensures.ahead in
    fails X.program X.text_of X.loaders X.fits g.S.LocalSource.may_tell now now c.args.self.now c.do_steps.new.self c.requires.ready did.stage (did.plans ∙ ap (λ (r : RunOf _ _). plans_in r.parts) c.self.view_is) (inl refl)

pub returns-clause-run : goal.returns-clause-run
returns-clause-run g c = λ begun is.
    let X = g.P.Execute in
    let did = rw (← c.self-2.view_is) at c.in_ok-ahead.ensures.ahead in
    let run = c.args.self.now in
    let plans = did.plans ∙ ap (λ (r : RunOf _ _). plans_in r.parts) c.self.view_is in
    let told = did.told ∙ ap (λ (r : RunOf _ _). told_in r.parts) c.self.view_is in
    let rounds = did.rounds ∙ ap (λ (r : RunOf _ _). r.rounds) c.self.view_is in
    still-ready X.program X.text_of g.S.LocalSource.may_tell begun (state_of c.args.session.now) run c.self-2.inside.executions c.self-2.inside.rounds plans told rounds c.requires.ready is
