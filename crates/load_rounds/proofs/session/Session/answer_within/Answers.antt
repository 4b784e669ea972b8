use Rattle.std.proofs.Common.{◌≡◌, ◌∙◌, Some, None, [], ◌∷◌, ap, sym, subst}
use Rattle.load_rounds.specs.Sessions.{state_of}
use Rattle.load_rounds.specs.SharedRounds.{ReportOf, IsAnsweredAlone, request_of, requests, report_of}
use Rattle.load_rounds.specs.Executions.{plans_in}
use Rattle.load_rounds.specs.Limits.{AreAskedInTime, AreOver, AreWithin}
use Rattle.load_rounds.specs.declared.limits.Overrun.{Overrun}
use Rattle.load_rounds.proofs.KeyByKey.{some-same}
use Rattle.load_rounds.proofs.Limiting.{refused, within-same}
use Rattle.load_rounds.proofs.Stages.{answered-one, stopped-one}
use Rattle.load_rounds.proofs.States.{on-err}
use Rattle.load_rounds.proofs.session.Session.answer_within.Goals as goal

pub returns-in_err-excess-clause-stopped : goal.returns-in_err-excess-clause-stopped
returns-in_err-excess-clause-stopped g c =
    let X = g.P.Execute in
    let old = state_of c.args.self.now in
    let begun = c.begin-rounds.ensures.begun in
    on-err c.from_residual.result (stopped-one X.program X.text_of X.loaders X.fits g.S.LocalSource.may_tell old (state_of c.run_within.new.session) c.args.plan.now c.run_within.new.self (c.run_within.ensures.plans ∙ begun.same) (c.run_within.ensures.run old begun.is))

pub returns-in-Some-clause-answer : goal.returns-in-Some-clause-answer
returns-in-Some-clause-answer g c =
    let X = g.P.Execute in
    let old = state_of c.args.self.now in
    let now = state_of c.run_within.new.session in
    let plan = c.args.plan.now in
    let begun = c.begin-rounds.ensures.begun in
    let same = c.run_within.ensures.plans ∙ begun.same in
    let ended = rw c.in-Some.is at c.in_ok-excess.ensures.ended in
    let in_time = subst (λ ps. AreAskedInTime g.S.LocalSource.may_tell old now c.args.limits (requests X.program X.text_of ps) c.run_within.new.self.rounds) begun.same (c.in_ok-excess.ensures.in_time old begun.is) in
    let over = subst (λ e. AreOver c.args.limits (requests X.program X.text_of (plans_in c.run_within.new.self.parts)) now c.run_within.new.self.rounds e) (sym (ap (λ (o : Overrun). o.excess) c.overrun.ensures)) ended.1 in
    refused X.program X.text_of g.S.LocalSource.may_tell old now c.args.limits (plan ∷ []) c.run_within.new.self same c.overrun.result (ap (λ (o : Overrun). o.rounds) c.overrun.ensures) ended.0 (c.run_within.ensures.run old begun.is) over in_time

pub unreachable-requires : goal.unreachable-requires
unreachable-requires g c =
    let X = g.P.Execute in
    let old = state_of c.args.self.now in
    let begun = c.begin-rounds.ensures.begun in
    let ended = rw c.in_default.is at c.in_ok-excess.ensures.ended in
    let done = answered-one X.program X.text_of X.loaders X.fits g.S.LocalSource.may_tell old (state_of c.run_within.new.session) c.args.plan.now c.run_within.new.self (c.run_within.ensures.plans ∙ begun.same) ended.0 (c.run_within.ensures.run old begun.is) in
    let none : None ≡ Some done.0 = rw c.in-None.is at c.into_answer.ensures ∙ done.1 in
    cc none

pub returns-clause-answer : goal.returns-clause-answer
returns-clause-answer g c =
    let X = g.P.Execute in
    let old = state_of c.args.self.now in
    let now = state_of c.run_within.new.session in
    let plan = c.args.plan.now in
    let begun = c.begin-rounds.ensures.begun in
    let are = c.run_within.ensures.plans ∙ begun.same in
    let ended = rw c.in_default.is at c.in_ok-excess.ensures.ended in
    let done = answered-one X.program X.text_of X.loaders X.fits g.S.LocalSource.may_tell old now plan c.run_within.new.self are ended.0 (c.run_within.ensures.run old begun.is) in
    let same : report_of c.in-Some-into_answer.answer ≡ done.0 = some-same (report_of c.in-Some-into_answer.answer) done.0 (rw c.in-Some-into_answer.is at c.into_answer.ensures ∙ done.1) in
    let within = within-same X.program X.text_of g.S.LocalSource.may_tell old now c.args.limits (plan ∷ []) c.run_within.new.self are ended.1 in (
      subst (IsAnsweredAlone g.S.LocalSource.may_tell old now (request_of (X.program plan) (X.text_of plan))) (sym same) done.2,
      subst (λ n. AreWithin c.args.limits (request_of (X.program plan) (X.text_of plan) ∷ []) now n) (sym (ap (λ (t : ReportOf). t.rounds) same ∙ done.3)) within,
    )
