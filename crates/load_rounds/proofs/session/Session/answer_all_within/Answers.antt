use Rattle.std.proofs.Common.{◌∙◌, length, ap, sym, subst}
use Rattle.load_rounds.specs.Sessions.{state_of}
use Rattle.load_rounds.specs.SharedRounds.{requests, joint, SharedHeadline}
use Rattle.load_rounds.specs.Executions.{plans_in}
use Rattle.load_rounds.specs.Limits.{AreAskedInTime, AreOver, AreWithin}
use Rattle.load_rounds.specs.declared.limits.Overrun.{Overrun}
use Rattle.load_rounds.proofs.Limiting.{refused, finished-within}
use Rattle.load_rounds.proofs.Stages.{finished-all, forgot-stops, stopped-all, headline-stops}
use Rattle.load_rounds.proofs.States.{on-err}
use Rattle.load_rounds.proofs.session.Session.answer_all_within.Goals as goal

pub returns-in_err-rounds-clause-stopped : goal.returns-in_err-rounds-clause-stopped
returns-in_err-rounds-clause-stopped g c =
    let X = g.P.Execute in
    on-err c.from_residual.result (forgot-stops g.S.LocalSource.may_tell (joint X.program X.text_of c.args.plans.items) (state_of c.args.self.now) (state_of c.begin_all.new.self) c.begin_all.ensures.forgot)

pub returns-in_err-excess-clause-stopped : goal.returns-in_err-excess-clause-stopped
returns-in_err-excess-clause-stopped g c =
    let X = g.P.Execute in
    let old = state_of c.args.self.now in
    let begun = c.in_ok-rounds.ensures.begun in
    on-err c.from_residual-in_err-excess.result (stopped-all X.program X.text_of X.loaders X.fits g.S.LocalSource.may_tell old (state_of c.run_within.new.session) c.args.plans.items c.run_within.new.self (c.run_within.ensures.plans ∙ begun.same) (c.run_within.ensures.run old begun.is))

pub returns-in-Some-clause-answers : goal.returns-in-Some-clause-answers
returns-in-Some-clause-answers g c =
    let X = g.P.Execute in
    let old = state_of c.args.self.now in
    let now = state_of c.run_within.new.session in
    let begun = c.in_ok-rounds.ensures.begun in
    let ended = rw c.in-Some.is at c.in_ok-excess.ensures.ended in
    let in_time = subst (λ ps. AreAskedInTime g.S.LocalSource.may_tell old now c.args.limits (requests X.program X.text_of ps) c.run_within.new.self.rounds) begun.same (c.in_ok-excess.ensures.in_time old begun.is) in
    let over = subst (λ e. AreOver c.args.limits (requests X.program X.text_of (plans_in c.run_within.new.self.parts)) now c.run_within.new.self.rounds e) (sym (ap (λ (o : Overrun). o.excess) c.overrun.ensures)) ended.1 in
    refused X.program X.text_of g.S.LocalSource.may_tell old now c.args.limits c.args.plans.items c.run_within.new.self (c.run_within.ensures.plans ∙ begun.same) c.overrun.result (ap (λ (o : Overrun). o.rounds) c.overrun.ensures) ended.0 (c.run_within.ensures.run old begun.is) over in_time

pub returns-in_err-into_answers-clause-stopped : goal.returns-in_err-into_answers-clause-stopped
returns-in_err-into_answers-clause-stopped g c =
    let X = g.P.Execute in
    let old = state_of c.args.self.now in
    let now = state_of c.run_within.new.session in
    let begun = c.in_ok-rounds.ensures.begun in
    let ended = rw c.in_default.is at c.in_ok-excess.ensures.ended in
    let headline = finished-all X.program X.text_of X.loaders X.fits g.S.LocalSource.may_tell old now c.args.plans.items c.run_within.new.self (c.run_within.ensures.plans ∙ begun.same) ended.0 (c.run_within.ensures.run old begun.is) in
    on-err c.from_residual-in_err-into_answers.result (headline-stops g.S.LocalSource.may_tell old now (requests X.program X.text_of c.args.plans.items) _ headline)

pub returns-clause-answers : goal.returns-clause-answers
returns-clause-answers g c =
    let X = g.P.Execute in
    let old = state_of c.args.self.now in
    let now = state_of c.run_within.new.session in
    let begun = c.in_ok-rounds.ensures.begun in
    let ended = rw c.in_default.is at c.in_ok-excess.ensures.ended in
    let done = finished-within X.program X.text_of g.S.LocalSource.may_tell old now c.args.limits c.args.plans.items c.run_within.new.self (c.run_within.ensures.plans ∙ begun.same) ended.0 (c.run_within.ensures.run old begun.is) ended.1 in
    subst (λ ts. (headline : SharedHeadline g.S.LocalSource.may_tell old now (requests X.program X.text_of c.args.plans.items) ts) × AreWithin c.args.limits (requests X.program X.text_of c.args.plans.items) now (length headline.log)) (sym c.in_ok-into_answers.ensures) done
