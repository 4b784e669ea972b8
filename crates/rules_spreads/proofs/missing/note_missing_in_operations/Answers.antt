use Rattle.std.proofs.Common.{◌≡◌, ◌∙◌, ◌+◌, ap, ℕ, List, not, slice_index, slice_index_or, false}
use Rattle.std.specs.Prelude.{◌&&◌}
use Rattle.rules_spreads.specs.Graphs.{row_at}
use Rattle.rules_spreads.specs.Reach.{is_among}
use Rattle.rules_spreads.specs.Rows.{rows_in}
use Rattle.rules_spreads.specs.OperationSpans.{set_at, is_within, is_missing_at}
use Rattle.rules_spreads.proofs.MissingLaws.{below_more, within-alone}
use Rattle.rules_spreads.proofs.missing.note_missing_in_operations.Goals as goal

pub loop-number-preserved : goal.loop-number-preserved
loop-number-preserved c = λ s.
    let set = set_at c.args.sets.now (slice_index c.args.numbers.now s) in
    let rows = rows_in c.args.rows.now in
    let n = c.loop-number.number in
    let row = c.list_at-own.result.now in
    let alone = within-alone c.alone.result set n c.alone.ensures in
    let here : (is_among s row && not (is_within c.alone.result set)) ≡ is_missing_at rows c.args.span.now.first set s n =
    ap (λ (r : List ℕ). is_among s r && not (is_within c.alone.result set)) c.list_at-own.ensures ∙ ap (λ b. is_among s (row_at rows (c.args.span.now.first + n)) && not b) alone in
    below_more (is_missing_at rows c.args.span.now.first set s) n (slice_index_or c.note_row.new.noted.items s false) (slice_index_or c.loop-number.noted.items s false) (slice_index_or c.args.noted.now.items s false) _ (c.in_ok-note_row.ensures s) here (c.loop-number.invariant s)
