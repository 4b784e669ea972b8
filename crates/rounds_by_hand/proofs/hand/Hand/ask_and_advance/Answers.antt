use Rattle.rounds_by_hand.proofs.Far.{kept-then}
use Rattle.rounds_by_hand.proofs.Readying.{ready-stops, stepped-kept, stepped-refuses, stepped-went}
use Rattle.rounds_by_hand.proofs.hand.Hand.ask_and_advance.Goals as goal

pub returns-in_err-excess-clause-underway : goal.returns-in_err-excess-clause-underway
returns-in_err-excess-clause-underway g c =
    rw c.ready.ensures.over (ready-stops (rw c.in-Some.is at c.in_ok-run.ensures.ready))

pub returns-in-Over-clause-underway : goal.returns-in-Over-clause-underway
returns-in-Over-clause-underway g c =
    rw c.ready.ensures.over (ready-stops (rw c.in-Some.is at c.in_ok-run.ensures.ready))

pub returns-in-Over-clause-refused : goal.returns-in-Over-clause-refused
returns-in-Over-clause-refused g c =
    let ready = rw (← c.self.view_is, ← c.deref_mut.ensures.value) at (rw c.in-Some.is at c.in_ok-run.ensures.ready) in
    rw (c.overrun.ensures, c.deref.ensures, ← c.self.view_is) (stepped-refuses ready c.in_ok-excess.ensures.ahead c.step.ensures.holds c.step.ensures.run c.in-Over.excess (rw c.in-Over.is at c.in_ok-excess.ensures.told) (rw (← c.self.view_is) at c.in_ok-run.ensures.stored))

pub returns-in-Working-clause-underway : goal.returns-in-Working-clause-underway
returns-in-Working-clause-underway g c =
    let ready = rw (← c.self.view_is, ← c.deref_mut.ensures.value) at (rw c.in-Some.is at c.in_ok-run.ensures.ready) in
    stepped-went ready c.in_ok-excess.ensures.ahead c.step.ensures.holds c.step.ensures.run

pub returns-in_err-answers-in-Done-clause-kept : goal.returns-in_err-answers-in-Done-clause-kept
returns-in_err-answers-in-Done-clause-kept g c =
    let ready = rw (← c.self.view_is, ← c.deref_mut.ensures.value) at (rw c.in-Some.is at c.in_ok-run.ensures.ready) in
    kept-then g.P.Execute.program g.P.Execute.text_of g.P.Execute.loaders g.P.Execute.fits c.args.self.now _ c.turn.new.self (stepped-kept ready c.in_ok-excess.ensures.ahead c.step.ensures.holds c.step.ensures.run) (rw (← c.self.view_is) at c.turn.ensures.kept)

pub returns-in_err-answers-in-Done-clause-underway : goal.returns-in_err-answers-in-Done-clause-underway
returns-in_err-answers-in-Done-clause-underway g c =
    let ready = rw (← c.self.view_is, ← c.deref_mut.ensures.value) at (rw c.in-Some.is at c.in_ok-run.ensures.ready) in
    λ begun h. (rw (← c.self.view_is) at c.turn.ensures.underway) begun (stepped-went ready c.in_ok-excess.ensures.ahead c.step.ensures.holds c.step.ensures.run begun h)

pub returns-in-Some-2-clause-kept : goal.returns-in-Some-2-clause-kept
returns-in-Some-2-clause-kept g c =
    let ready = rw (← c.self.view_is, ← c.deref_mut.ensures.value) at (rw c.in-Some.is at c.in_ok-run.ensures.ready) in
    kept-then g.P.Execute.program g.P.Execute.text_of g.P.Execute.loaders g.P.Execute.fits c.args.self.now _ c.turn.new.self (stepped-kept ready c.in_ok-excess.ensures.ahead c.step.ensures.holds c.step.ensures.run) (rw (← c.self.view_is) at c.turn.ensures.kept)

pub returns-in-Some-2-clause-underway : goal.returns-in-Some-2-clause-underway
returns-in-Some-2-clause-underway g c =
    let ready = rw (← c.self.view_is, ← c.deref_mut.ensures.value) at (rw c.in-Some.is at c.in_ok-run.ensures.ready) in
    λ begun h. (rw (← c.self.view_is) at c.turn.ensures.underway) begun (stepped-went ready c.in_ok-excess.ensures.ahead c.step.ensures.holds c.step.ensures.run begun h)

pub returns-in-None-clause-kept : goal.returns-in-None-clause-kept
returns-in-None-clause-kept g c =
    let ready = rw (← c.self.view_is, ← c.deref_mut.ensures.value) at (rw c.in-Some.is at c.in_ok-run.ensures.ready) in
    kept-then g.P.Execute.program g.P.Execute.text_of g.P.Execute.loaders g.P.Execute.fits c.args.self.now _ c.turn.new.self (stepped-kept ready c.in_ok-excess.ensures.ahead c.step.ensures.holds c.step.ensures.run) (rw (← c.self.view_is) at c.turn.ensures.kept)

pub returns-in-None-clause-underway : goal.returns-in-None-clause-underway
returns-in-None-clause-underway g c =
    let ready = rw (← c.self.view_is, ← c.deref_mut.ensures.value) at (rw c.in-Some.is at c.in_ok-run.ensures.ready) in
    λ begun h. (rw (← c.self.view_is) at c.turn.ensures.underway) begun (stepped-went ready c.in_ok-excess.ensures.ahead c.step.ensures.holds c.step.ensures.run begun h)

pub returns-in-Some-2-clause-answers : goal.returns-in-Some-2-clause-answers
returns-in-Some-2-clause-answers g c =
    let ready = rw (← c.self.view_is, ← c.deref_mut.ensures.value) at (rw c.in-Some.is at c.in_ok-run.ensures.ready) in
    λ begun h. (rw (c.in-Some-2.is, ← c.self.view_is) at c.in_ok-answers-in-Done.ensures.turned).answers begun (stepped-went ready c.in_ok-excess.ensures.ahead c.step.ensures.holds c.step.ensures.run begun h)
