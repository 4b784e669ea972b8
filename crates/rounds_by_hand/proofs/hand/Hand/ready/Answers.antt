use Rattle.std.proofs.Common.{◌∙◌, sym, ap, subst, refl}
use Rattle.execution.specs.Sessions.{Forgot}
use Rattle.load_rounds.specs.Sessions.{state_of, after_step}
use Rattle.load_rounds.specs.Executions.{plans_in}
use Rattle.load_rounds.specs.ByHand.{RunsAsked}
use Rattle.load_rounds.specs.Runs.{RunOf, IsRun, program_of}
use Rattle.load_rounds.specs.declared.rounds.Stage.TheVariants.{Ready}
use Rattle.load_rounds.specs.SharedRounds.{requests, joint}
use Rattle.load_rounds.specs.Limits.{AreAskedInTime, IsWithin}
use Rattle.load_rounds.proofs.Stages.{forgot-stops, stopped-all}
use Rattle.load_rounds.proofs.States.{on-err}
use Rattle.rounds_by_hand.specs.Hands.{far_of}
use Rattle.rounds_by_hand.proofs.Far.{forgot-kept, same-kept}
use Rattle.rounds_by_hand.proofs.Readying.{begun-readies, ready-kept, same-readies}
use Rattle.rounds_by_hand.proofs.Within.{stored-in-time}
use Rattle.rounds_by_hand.proofs.hand.Hand.ready.Goals as goal

pub returns-in_err-run-in-Handed-clause-stopped : goal.returns-in_err-run-in-Handed-clause-stopped
returns-in_err-run-in-Handed-clause-stopped g c =
    let p = joint g.P.Execute.program g.P.Execute.text_of c.self.inside.plans.value.items in
    rw c.replace.ensures.after (on-err c.from_residual.result (λ begun h.
    let own = rw (sym c.replace.ensures.value ∙ c.in-Handed.is) at (rw (← c.self.view_is) at h) in
    forgot-stops g.S.LocalSource.may_tell p (state_of begun) (state_of c.begin_all.new.self) (c.begin_all.ensures.forgot ∙ ap (λ s. after_step (state_of s) Forgot) own)))

pub returns-in_err-new-in-Handed-clause-stopped : goal.returns-in_err-new-in-Handed-clause-stopped
returns-in_err-new-in-Handed-clause-stopped g c =
    let p = joint g.P.Execute.program g.P.Execute.text_of c.self.inside.plans.value.items in
    rw c.replace.ensures.after (on-err c.from_residual-in_err-new-in-Handed.result (λ begun h.
    let own = rw (sym c.replace.ensures.value ∙ c.in-Handed.is) at (rw (← c.self.view_is) at h) in
    forgot-stops g.S.LocalSource.may_tell p (state_of begun) (state_of c.begin_all.new.self) (c.begin_all.ensures.forgot ∙ ap (λ s. after_step (state_of s) Forgot) own)))

pub returns-in_err-store-in-Out-clause-stopped : goal.returns-in_err-store-in-Out-clause-stopped
returns-in_err-store-in-Out-clause-stopped g c =
    let X = g.P.Execute in
    let may = g.S.LocalSource.may_tell in
    let run = c.in-Out.run'.value in
    rw c.replace.ensures.after (on-err c.from_residual-in_err-store-in-Out.result (λ begun h.
    let gone = rw (sym c.replace.ensures.value ∙ c.in-Out.is) at (rw (← c.self.view_is) at h) in
    stopped-all X.program X.text_of X.loaders X.fits may (state_of begun) (state_of c.store.new.session) c.self.inside.plans.value.items run gone.0
    (subst (λ s. IsRun X.program X.text_of may (state_of begun) s run) (sym c.in_err-store-in-Out.ensures.lost) gone.1)))

pub returns-in_ok-store-in-Out-clause-ready : goal.returns-in_ok-store-in-Out-clause-ready
returns-in_ok-store-in-Out-clause-ready g c =
    let X = g.P.Execute in
    let may = g.S.LocalSource.may_tell in
    let value = sym c.replace.ensures.value ∙ c.in-Out.is in
    let round = rw value at (rw (← c.self.view_is) at c.requires.round) in
    let within = rw value at (rw (← c.self.view_is) at c.requires.within) in
    let run : RunOf g.row.P.Denot g.row.E.Denot = c.in-Out.run'.value in
    let same = c.deref_mut.ensures.value in
    let ready = c.in_ok-store-in-Out.ensures.ready ∙ ap (λ (r : RunOf g.row.P.Denot g.row.E.Denot). record r { stage = Ready }) same in
    let rounds = ap (λ (r : RunOf g.row.P.Denot g.row.E.Denot). r.rounds) ready in
    let old = state_of c.self.inside.session in
    let now = state_of c.store.new.session in
    let plans = ap (λ (r : RunOf g.row.P.Denot g.row.E.Denot). plans_in r.parts) ready ∙ round.0 in
    let stage = ap (λ (r : RunOf g.row.P.Denot g.row.E.Denot). r.stage) ready in
    rw (← c.self.view_is) (record {
      left = rw value (λ e. absurd (cc e));
      kept = ready-kept X.program X.text_of X.loaders X.fits _ c.store.new.session c.store.new.run plans stage c.in_ok-store-in-Out.ensures.holds (subst (IsWithin c.self.inside.limits.rounds) (sym rounds) within.rounds) c.store.ensures.loaders;
      went = λ begun h.
          let gone = rw value at h in
          let away = rw round.1.stage at gone.1 in
          let ran = subst (λ (r : RunOf g.row.P.Denot g.row.E.Denot). RunsAsked may (program_of X.program X.text_of r) old now) same (c.in_ok-store-in-Out.ensures.in_one gone.2) in (
            plans,
            c.in_ok-store-in-Out.ensures.ran gone.2 (state_of begun) (subst (λ (r : RunOf g.row.P.Denot g.row.E.Denot). IsRun X.program X.text_of may (state_of begun) old r) (sym same) gone.1),
            subst (λ n. AreAskedInTime may (state_of begun) now c.self.inside.limits (requests X.program X.text_of c.self.inside.plans.value.items) n) (sym rounds)
                (stored-in-time X.program X.text_of c.self.inside.plans.value.items run round.0 c.self.inside.limits may (state_of begun) old now within away ran),
          );
      same = rw value (λ is. absurd is);
    })

pub returns-in_ok-new-in-Handed-clause-ready : goal.returns-in_ok-new-in-Handed-clause-ready
returns-in_ok-new-in-Handed-clause-ready g c =
    let X = g.P.Execute in
    let value = sym c.replace.ensures.value ∙ c.in-Handed.is in
    let begun = rw (rw value at c.self.invariant, ← c.in_ok-new-in-Handed.ensures.ok) at c.in_ok-run-in-Handed.ensures.begun in
    let kept = forgot-kept (state_of c.self.inside.session) (state_of c.begin_all.new.self) c.begin_all.ensures.forgot in
    rw (← c.self.view_is) (begun-readies X.program X.text_of X.loaders X.fits g.S.LocalSource.may_tell _ c.begin_all.new.self _ c.in_ok-new-in-Handed.field-0.value (ap far_of value) begun kept)

pub returns-in-Ready-clause-ready : goal.returns-in-Ready-clause-ready
returns-in-Ready-clause-ready g c =
    let X = g.P.Execute in
    let value = sym c.replace.ensures.value ∙ c.in-Ready.is in
    rw (← c.self.view_is) (same-readies X.program X.text_of X.loaders X.fits g.S.LocalSource.may_tell _ _ c.in-Ready.run'.value (ap far_of value) (rw (← c.self.view_is) at c.requires))

-- ---- the loaders stay

pub returns-in-Ready-clause-loaders : goal.returns-in-Ready-clause-loaders
returns-in-Ready-clause-loaders g c =
    let s = state_of c.self.inside.session in
    rw (← c.self.view_is) (same-kept s s refl)

pub returns-in-Over-clause-loaders : goal.returns-in-Over-clause-loaders
returns-in-Over-clause-loaders g c =
    let s = state_of c.self.inside.session in
    rw (← c.self.view_is) (same-kept s s refl)

pub returns-in_err-run-in-Handed-clause-loaders : goal.returns-in_err-run-in-Handed-clause-loaders
returns-in_err-run-in-Handed-clause-loaders g c =
    rw (← c.self.view_is) (forgot-kept (state_of c.self.inside.session) (state_of c.begin_all.new.self) c.begin_all.ensures.forgot)

pub returns-in_err-new-in-Handed-clause-loaders : goal.returns-in_err-new-in-Handed-clause-loaders
returns-in_err-new-in-Handed-clause-loaders g c =
    rw (← c.self.view_is) (forgot-kept (state_of c.self.inside.session) (state_of c.begin_all.new.self) c.begin_all.ensures.forgot)

pub returns-in_ok-new-in-Handed-clause-loaders : goal.returns-in_ok-new-in-Handed-clause-loaders
returns-in_ok-new-in-Handed-clause-loaders g c =
    rw (← c.self.view_is) (forgot-kept (state_of c.self.inside.session) (state_of c.begin_all.new.self) c.begin_all.ensures.forgot)
