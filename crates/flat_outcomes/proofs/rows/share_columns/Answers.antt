use Rattle.std.proofs.Common.{◌≡◌, ◌<◌, ◌∙◌, false, length, sym, arith}
use Rattle.std.specs.Prelude.{bytes_eq}
use Rattle.flat_outcomes.proofs.Columns.{name_at, differs-at, not-true, same-all}
use Rattle.flat_outcomes.proofs.rows.share_columns.Goals as goal

pub returns-then-ne : goal.returns-then-ne
returns-then-ne c =
    let one = c.args.one.now in let other = c.args.other.now in let at = c.loop-column.column in
    let many : length one ≡ length other = sym c.width.ensures ∙ c.if-width.false ∙ c.width-2.ensures in
    let lt : at < length one = omega (arith, c.loop-column-test.true, c.width-column-end.ensures) in
    let lt' : at < length other = omega (arith, lt, many) in
    let differ : bytes_eq (name_at one at) (name_at other at) ≡ false =
    rw (← c.name.ensures, ← c.name-in-loop-column.ensures) (not-true _ (sym c.ne.ensures ∙ c.if-ne.true)) in
    sym (differs-at one other at lt lt' differ)

pub returns : goal.returns
returns c =
    let one = c.args.one.now in let other = c.args.other.now in
    let many : length one ≡ length other = sym c.width.ensures ∙ c.if-width.false ∙ c.width-2.ensures in
    sym (same-all one other many (λ k lt. c.loop-column.invariant k (omega (arith, lt, c.loop-column-test.false, c.width-column-end.ensures))))
