use Rattle.rounds_by_hand.proofs.Turning.{turned-answers, turned-asks, turned-next, turned-out, turned-round, turned-stops, turned-unasked}
use Rattle.rounds_by_hand.proofs.hand.Hand.turn.Goals as goal

pub returns-in_err-advance-clause-kept : goal.returns-in_err-advance-clause-kept
returns-in_err-advance-clause-kept g c =
    let can = rw (← c.self.view_is, ← c.deref_mut.ensures.value) at c.requires in
    rw (← c.self.view_is, ← c.deref_mut.ensures.value, can.over) (turned-unasked can c.advance.ensures.kept c.advance.ensures.run c.in_err-advance.ensures.failed.lost)

pub returns-in_err-advance-clause-underway : goal.returns-in_err-advance-clause-underway
returns-in_err-advance-clause-underway g c =
    let can = rw (← c.self.view_is, ← c.deref_mut.ensures.value) at c.requires in
    rw (← c.self.view_is, ← c.deref_mut.ensures.value, can.over) (turned-stops can c.advance.ensures.kept c.advance.ensures.run)

pub returns-in_err-into_answers-in-None-clause-kept : goal.returns-in_err-into_answers-in-None-clause-kept
returns-in_err-into_answers-in-None-clause-kept g c =
    let can = rw (← c.self.view_is, ← c.deref_mut.ensures.value) at c.requires in
    rw (← c.self.view_is, ← c.deref_mut.ensures.value, can.over) (turned-next can c.advance.ensures.kept c.advance.ensures.run _ c.in_ok-advance.ensures.next)

pub returns-in_err-into_answers-in-None-clause-underway : goal.returns-in_err-into_answers-in-None-clause-underway
returns-in_err-into_answers-in-None-clause-underway g c =
    let can = rw (← c.self.view_is, ← c.deref_mut.ensures.value) at c.requires in
    rw (← c.self.view_is, ← c.deref_mut.ensures.value, can.over) (turned-stops can c.advance.ensures.kept c.advance.ensures.run)

pub returns-in_err-pending-in-Some-clause-kept : goal.returns-in_err-pending-in-Some-clause-kept
returns-in_err-pending-in-Some-clause-kept g c =
    let can = rw (← c.self.view_is, ← c.deref_mut.ensures.value) at c.requires in
    rw (← c.self.view_is, ← c.deref_mut.ensures.value, can.over) (turned-next can c.advance.ensures.kept c.advance.ensures.run _ c.in_ok-advance.ensures.next)

pub returns-in_err-pending-in-Some-clause-underway : goal.returns-in_err-pending-in-Some-clause-underway
returns-in_err-pending-in-Some-clause-underway g c =
    let can = rw (← c.self.view_is, ← c.deref_mut.ensures.value) at c.requires in
    rw (← c.self.view_is, ← c.deref_mut.ensures.value, can.over) (turned-stops can c.advance.ensures.kept c.advance.ensures.run)

pub returns-in_ok-into_answers-in-None-clause-kept : goal.returns-in_ok-into_answers-in-None-clause-kept
returns-in_ok-into_answers-in-None-clause-kept g c =
    let can = rw (← c.self.view_is, ← c.deref_mut.ensures.value) at c.requires in
    rw (← c.self.view_is, ← c.deref_mut.ensures.value, can.over) (turned-next can c.advance.ensures.kept c.advance.ensures.run _ c.in_ok-advance.ensures.next)

pub returns-in_ok-into_answers-in-None-clause-underway : goal.returns-in_ok-into_answers-in-None-clause-underway
returns-in_ok-into_answers-in-None-clause-underway g c =
    let can = rw (← c.self.view_is, ← c.deref_mut.ensures.value) at c.requires in
    rw (← c.self.view_is, ← c.deref_mut.ensures.value, can.over) (turned-stops can c.advance.ensures.kept c.advance.ensures.run)

pub returns-in_ok-into_answers-in-None-clause-turned : goal.returns-in_ok-into_answers-in-None-clause-turned
returns-in_ok-into_answers-in-None-clause-turned g c =
    let can = rw (← c.self.view_is, ← c.deref_mut.ensures.value) at c.requires in
    rw (← c.self.view_is, ← c.deref_mut.ensures.value, can.over) (turned-answers can c.advance.ensures.kept c.advance.ensures.run (rw c.in-None.is at c.in_ok-advance.ensures.next) c.in_ok-into_answers-in-None.field-0 (rw c.into_inner.ensures at c.in_ok-into_answers-in-None.ensures))

pub returns-in_ok-pending-in-Some-clause-kept : goal.returns-in_ok-pending-in-Some-clause-kept
returns-in_ok-pending-in-Some-clause-kept g c =
    let can = rw (← c.self.view_is, ← c.deref_mut.ensures.value) at c.requires in
    rw (← c.self.view_is, ← c.deref_mut.ensures.value) (turned-round can c.advance.ensures.kept c.advance.ensures.run c.in-Some.orders c.in_ok-pending-in-Some.pending.items c.in_ok-pending-in-Some.ensures (rw c.in-Some.is at c.in_ok-advance.ensures.next) c.advance.ensures.holds)

pub returns-in_ok-pending-in-Some-clause-underway : goal.returns-in_ok-pending-in-Some-clause-underway
returns-in_ok-pending-in-Some-clause-underway g c =
    let can = rw (← c.self.view_is, ← c.deref_mut.ensures.value) at c.requires in
    rw (← c.self.view_is, ← c.deref_mut.ensures.value) (turned-out can c.advance.ensures.kept c.advance.ensures.run c.in-Some.orders c.in_ok-pending-in-Some.pending.items c.in_ok-pending-in-Some.ensures)

pub returns-in_ok-pending-in-Some-clause-turned : goal.returns-in_ok-pending-in-Some-clause-turned
returns-in_ok-pending-in-Some-clause-turned g c =
    let can = rw (← c.self.view_is, ← c.deref_mut.ensures.value) at c.requires in
    rw (← c.self.view_is, ← c.deref_mut.ensures.value) (turned-asks can c.advance.ensures.kept c.advance.ensures.run c.in-Some.orders c.in_ok-pending-in-Some.pending.items c.in_ok-pending-in-Some.ensures (rw c.in-Some.is at c.in_ok-advance.ensures.next))
