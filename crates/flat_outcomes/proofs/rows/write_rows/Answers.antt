use Rattle.std.proofs.Common.{refl, sym, ◌∙◌}
use Rattle.std.proofs.lemmas.List.{append-nil, take_all}
use Rattle.std.proofs.lemmas.List.Elements.{All-nil}
use Rattle.flat_outcomes.specs.Written.{IsNarrow, last_row, row_before, texts_of, widths_of}
use Rattle.flat_outcomes.proofs.Adding.{widths-next, texts-next, narrow-next, last-next}
use Rattle.flat_outcomes.proofs.rows.write_rows.Goals as goal

pub loop-row-preserved : goal.loop-row-preserved
loop-row-preserved c =
    let now = c.loop-row.invariant in let rows = c.args.rows.now in let i = c.loop-row.row-index in
    let b = row_before c.args.before in let last = row_before c.loop-row.last in
    let row = c.row-item.result in let lt = c.loop-row-test.true in let is = c.row-item.is in
    record {
      widths = c.in_ok-write_row.ensures.width ∙ widths-next b rows i row lt is last now.last _ _ now.widths;
      texts = c.in_ok-write_row.ensures.texts ∙ texts-next b rows i row lt is last now.last _ _ now.texts;
      narrow = narrow-next b rows i row lt is last now.last now.narrow c.in_ok-write_row.ensures.narrow;
      last = last-next b rows i row lt is last now.last;
    }

pub returns-clause-widths : goal.returns-clause-widths
returns-clause-widths c = rw (← take_all c.loop-row.row-index c.args.rows.now c.loop-row-test.false) c.loop-row.invariant.widths

pub returns-clause-texts : goal.returns-clause-texts
returns-clause-texts c = rw (← take_all c.loop-row.row-index c.args.rows.now c.loop-row-test.false) c.loop-row.invariant.texts

pub returns-clause-narrow : goal.returns-clause-narrow
returns-clause-narrow c = rw (← take_all c.loop-row.row-index c.args.rows.now c.loop-row-test.false) c.loop-row.invariant.narrow

pub returns-clause-last : goal.returns-clause-last
returns-clause-last c = rw (← take_all c.loop-row.row-index c.args.rows.now c.loop-row-test.false) c.loop-row.invariant.last

pub loop-row-init : goal.loop-row-init
unfolding widths_of texts_of last_row
loop-row-init c = record {
  widths = sym (append-nil _);
  texts = sym (append-nil _);
  narrow = All-nil IsNarrow;
  last = refl;
}
