use Rattle.std.proofs.Common.{◌≡◌, ◌∙◌, Some, None, [], ◌∷◌, ap, sym, subst}
use Rattle.load_rounds.specs.Sessions.{state_of}
use Rattle.load_rounds.specs.SharedRounds.{ReportOf, IsAnsweredAlone, report_of, request_of, requests}
use Rattle.load_rounds.specs.Executions.{plans_in}
use Rattle.load_rounds.specs.Limits.{AreAskedInTime, AreOver, AreWithin}
use Rattle.load_rounds.specs.declared.limits.Overrun.{Overrun}
use Rattle.load_rounds.proofs.Limiting.{refused, within-same}
use Rattle.load_rounds.proofs.Stages.{answered-one, stopped-one}
use Rattle.batch_workers.proofs.answer.answer_with.Goals as goal

some-is : {X : Type 0} (x y : X) → Some x ≡ Some y → x ≡ y
some-is x y e = cc e

pub returns-in_err-excess-clause-stopped : goal.returns-in_err-excess-clause-stopped
returns-in_err-excess-clause-stopped g c =
    let X = g.P.Execute in
    let old = state_of c.args.session.now in
    let begun = c.begin-rounds.ensures.begun in
    λ _. (stopped-one X.program X.text_of X.loaders X.fits g.S.Source.may_answer old (state_of c.run.new.session) c.args.plan.now c.run.new.rounds (c.run.ensures.plans ∙ begun.same) (c.run.ensures.run old begun.is))

pub returns-in-Some-clause-over : goal.returns-in-Some-clause-over
returns-in-Some-clause-over g c =
    let X = g.P.Execute in
    let old = state_of c.args.session.now in
    let now = state_of c.run.new.session in
    let plan = c.args.plan.now in
    let begun = c.begin-rounds.ensures.begun in
    let same = c.run.ensures.plans ∙ begun.same in
    let ended = rw c.in-Some.is at c.in_ok-excess.ensures.ended in
    let in_time = subst (λ ps. AreAskedInTime g.S.Source.may_answer old now c.args.limits (requests X.program X.text_of ps) c.run.new.rounds.rounds) begun.same (c.in_ok-excess.ensures.in_time old begun.is) in
    let over = subst (λ e. AreOver c.args.limits (requests X.program X.text_of (plans_in c.run.new.rounds.parts)) now c.run.new.rounds.rounds e) (sym (ap (λ (o : Overrun). o.excess) c.overrun.ensures)) ended.1 in
    refused X.program X.text_of g.S.Source.may_answer old now c.args.limits (plan ∷ []) c.run.new.rounds same c.overrun.result (ap (λ (o : Overrun). o.rounds) c.overrun.ensures) ended.0 (c.run.ensures.run old begun.is) over in_time

pub unreachable-requires : goal.unreachable-requires
unreachable-requires g c =
    let X = g.P.Execute in
    let old = state_of c.args.session.now in
    let begun = c.begin-rounds.ensures.begun in
    let ended = rw c.in_default.is at c.in_ok-excess.ensures.ended in
    let done = answered-one X.program X.text_of X.loaders X.fits g.S.Source.may_answer old (state_of c.run.new.session) c.args.plan.now c.run.new.rounds (c.run.ensures.plans ∙ begun.same) ended.0 (c.run.ensures.run old begun.is) in
    let none : None ≡ Some done.0 = rw c.in-None.is at c.into_answer.ensures ∙ done.1 in
    cc none

pub returns-clause-answer : goal.returns-clause-answer
returns-clause-answer g c =
    let X = g.P.Execute in
    let old = state_of c.args.session.now in
    let now = state_of c.run.new.session in
    let plan = c.args.plan.now in
    let begun = c.begin-rounds.ensures.begun in
    let are = c.run.ensures.plans ∙ begun.same in
    let ended = rw c.in_default.is at c.in_ok-excess.ensures.ended in
    let done = answered-one X.program X.text_of X.loaders X.fits g.S.Source.may_answer old now plan c.run.new.rounds are ended.0 (c.run.ensures.run old begun.is) in
    let same : report_of c.in-Some-into_answer.answer ≡ done.0 = some-is (report_of c.in-Some-into_answer.answer) done.0 (rw c.in-Some-into_answer.is at c.into_answer.ensures ∙ done.1) in
    let within = within-same X.program X.text_of g.S.Source.may_answer old now c.args.limits (plan ∷ []) c.run.new.rounds are ended.1 in (
      subst (IsAnsweredAlone g.S.Source.may_answer old now (request_of (X.program plan) (X.text_of plan))) (sym same) done.2,
      subst (λ n. AreWithin c.args.limits (request_of (X.program plan) (X.text_of plan) ∷ []) now n) (sym (ap (λ (t : ReportOf). t.rounds) same ∙ done.3)) within,
    )
