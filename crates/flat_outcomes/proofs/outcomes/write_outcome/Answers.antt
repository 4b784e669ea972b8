use Rattle.std.proofs.Common.{◌<◌, ap, arith, length, refl, sym}
use Rattle.std.proofs.lemmas.List.{append-nil}
use Rattle.std.proofs.lemmas.List.Elements.{All-nil}
use Rattle.std.proofs.lemmas.Result.{on_ok_weaker}
use Rattle.std.specs.Prelude.{All}
use Rattle.flat_outcomes.specs.Said.{batch_mark}
use Rattle.flat_outcomes.specs.Written.{IsNarrow, last_row, texts_of, widths_of}
use Rattle.flat_outcomes.proofs.outcomes.write_outcome.Goals as goal

pub returns-in_ok-push-in-Rows-clause-few : goal.returns-in_ok-push-in-Rows-clause-few
returns-in_ok-push-in-Rows-clause-few c =
    let counted = c.in_ok-count_below-in-Rows.ensures in
    let below : length c.deref.result.now < batch_mark = omega (arith, counted.below, counted.ok, c.len.ensures, ap length c.deref.ensures.value) in
    rw (c.in-Rows.is, ← c.deref.ensures.value)
    (on_ok_weaker c.write_rows.result (λ (narrow : All IsNarrow c.deref.result.now). (below, narrow)) c.write_rows.ensures.narrow)

pub returns-in_ok-push-in-KeyFault-2-clause-few : goal.returns-in_ok-push-in-KeyFault-2-clause-few
returns-in_ok-push-in-KeyFault-2-clause-few c = rw c.in-KeyFault.is (omega arith, All-nil IsNarrow)

pub returns-in_ok-push-in-KeyFault-2-clause-widths : goal.returns-in_ok-push-in-KeyFault-2-clause-widths
unfolding widths_of
returns-in_ok-push-in-KeyFault-2-clause-widths c = rw c.in-KeyFault.is (sym (append-nil _))

pub returns-in_ok-push-in-KeyFault-2-clause-texts : goal.returns-in_ok-push-in-KeyFault-2-clause-texts
unfolding texts_of
returns-in_ok-push-in-KeyFault-2-clause-texts c = rw c.in-KeyFault.is (sym (append-nil _))

pub returns-in_ok-push-in-KeyFault-2-clause-last : goal.returns-in_ok-push-in-KeyFault-2-clause-last
unfolding last_row
returns-in_ok-push-in-KeyFault-2-clause-last c = rw c.in-KeyFault.is refl

pub returns-in_ok-push-in-BatchFault-2-clause-few : goal.returns-in_ok-push-in-BatchFault-2-clause-few
returns-in_ok-push-in-BatchFault-2-clause-few c = rw c.in-BatchFault.is (omega arith, All-nil IsNarrow)

pub returns-in_ok-push-in-BatchFault-2-clause-widths : goal.returns-in_ok-push-in-BatchFault-2-clause-widths
unfolding widths_of
returns-in_ok-push-in-BatchFault-2-clause-widths c = rw c.in-BatchFault.is (sym (append-nil _))

pub returns-in_ok-push-in-BatchFault-2-clause-texts : goal.returns-in_ok-push-in-BatchFault-2-clause-texts
unfolding texts_of
returns-in_ok-push-in-BatchFault-2-clause-texts c = rw c.in-BatchFault.is (sym (append-nil _))

pub returns-in_ok-push-in-BatchFault-2-clause-last : goal.returns-in_ok-push-in-BatchFault-2-clause-last
unfolding last_row
returns-in_ok-push-in-BatchFault-2-clause-last c = rw c.in-BatchFault.is refl
