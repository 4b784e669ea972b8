use Rattle.std.proofs.Common.{◌∙◌, length, ap, sym, subst}
use Rattle.load_rounds.specs.Sessions.{state_of}
use Rattle.load_rounds.specs.SharedRounds.{requests, joint, SharedHeadline}
use Rattle.load_rounds.specs.Executions.{plans_in}
use Rattle.load_rounds.specs.Limits.{AreAskedInTime, AreOver, AreWithin}
use Rattle.load_rounds.specs.declared.limits.Overrun.{Overrun}
use Rattle.load_rounds.proofs.Limiting.{refused, finished-within}
use Rattle.load_rounds.proofs.Stages.{forgot-stops, stopped-all}
use Rattle.batch_workers.proofs.answering_all.answer_all_with.Goals as goal

pub returns-in_err-rounds-clause-stopped : goal.returns-in_err-rounds-clause-stopped
returns-in_err-rounds-clause-stopped g c =
    let X = g.P.Execute in
    λ _. (forgot-stops g.S.Source.may_answer (joint X.program X.text_of c.args.plans.items) (state_of c.args.session.now) (state_of c.begin_all.new.self) c.begin_all.ensures.forgot)

pub returns-in_err-excess-clause-stopped : goal.returns-in_err-excess-clause-stopped
returns-in_err-excess-clause-stopped g c =
    let X = g.P.Execute in
    let old = state_of c.args.session.now in
    let begun = c.in_ok-rounds.ensures.begun in
    λ _. (stopped-all X.program X.text_of X.loaders X.fits g.S.Source.may_answer old (state_of c.run.new.session) c.args.plans.items c.run.new.rounds (c.run.ensures.plans ∙ begun.same) (c.run.ensures.run old begun.is))

pub returns-in-Some-clause-over : goal.returns-in-Some-clause-over
returns-in-Some-clause-over g c =
    let X = g.P.Execute in
    let old = state_of c.args.session.now in
    let now = state_of c.run.new.session in
    let begun = c.in_ok-rounds.ensures.begun in
    let ended = rw c.in-Some.is at c.in_ok-excess.ensures.ended in
    let in_time = subst (λ ps. AreAskedInTime g.S.Source.may_answer old now c.args.limits (requests X.program X.text_of ps) c.run.new.rounds.rounds) begun.same (c.in_ok-excess.ensures.in_time old begun.is) in
    let over = subst (λ e. AreOver c.args.limits (requests X.program X.text_of (plans_in c.run.new.rounds.parts)) now c.run.new.rounds.rounds e) (sym (ap (λ (o : Overrun). o.excess) c.overrun.ensures)) ended.1 in
    refused X.program X.text_of g.S.Source.may_answer old now c.args.limits c.args.plans.items c.run.new.rounds (c.run.ensures.plans ∙ begun.same) c.overrun.result (ap (λ (o : Overrun). o.rounds) c.overrun.ensures) ended.0 (c.run.ensures.run old begun.is) over in_time

pub returns-clause-answers : goal.returns-clause-answers
returns-clause-answers g c =
    let X = g.P.Execute in
    let old = state_of c.args.session.now in
    let now = state_of c.run.new.session in
    let begun = c.in_ok-rounds.ensures.begun in
    let ended = rw c.in_default.is at c.in_ok-excess.ensures.ended in
    let done = finished-within X.program X.text_of g.S.Source.may_answer old now c.args.limits c.args.plans.items c.run.new.rounds (c.run.ensures.plans ∙ begun.same) ended.0 (c.run.ensures.run old begun.is) ended.1 in
    subst (λ ts. (headline : SharedHeadline g.S.Source.may_answer old now (requests X.program X.text_of c.args.plans.items) ts) × AreWithin c.args.limits (requests X.program X.text_of c.args.plans.items) now (length headline.log)) (sym c.in_ok-into_answers.ensures) done

pub returns-in_err-into_answers-clause-stopped : goal.returns-in_err-into_answers-clause-stopped
returns-in_err-into_answers-clause-stopped g c =
    let X = g.P.Execute in
    let old = state_of c.args.session.now in
    let begun = c.in_ok-rounds.ensures.begun in
    λ _. (stopped-all X.program X.text_of X.loaders X.fits g.S.Source.may_answer old (state_of c.run.new.session) c.args.plans.items c.run.new.rounds (c.run.ensures.plans ∙ begun.same) (c.run.ensures.run old begun.is))
