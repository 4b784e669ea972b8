use Rattle.std.proofs.Common.{◌≡◌, ◌+◌, ◌*◌, take, subst, refl}
use Rattle.std.specs.Prelude.{IfOk}
use Rattle.std.proofs.lemmas.Str.{IsCharBoundary-from_drop}
use Rattle.load_memory.specs.Cells.{cut, sheet_of, start_at}
use Rattle.load_memory.specs.Rows.{SheetOf}
use Rattle.flat_rows.specs.Replies.{sheet_said}
use Rattle.flat_rows.proofs.FirstTexts.{IsCut-first, cut-first, end-whole, end-within, front, sheet-first}
use Rattle.flat_rows.proofs.texts.sheet_of.Goals as goal

pub range-requires-clause-end_boundary : goal.range-requires-clause-end_boundary
range-requires-clause-end_boundary c =
    let text = c.args.text.now in let ends = c.args.ends.now in let n = c.args.columns + c.args.rows * c.args.columns in
    rw c.start_of-end.ensures (IsCharBoundary-from_drop text (start_at 0 ends n) (end-within text 0 ends n c.requires.cut).1 (end-whole text 0 ends n c.requires.cut c.utf8.text))

pub of_texts-requires-clause-cut : goal.of_texts-requires-clause-cut
of_texts-requires-clause-cut c =
    let text = c.args.text.now in let ends = c.args.ends.now in let n = c.args.columns + c.args.rows * c.args.columns in let to = start_at 0 ends n in
    rw (c.range.ensures.value, c.start_of-end.ensures, front to)
    (IsCut-first text to (end-within text 0 ends n c.requires.cut).1 (end-whole text 0 ends n c.requires.cut c.utf8.text) 0 ends n c.requires.cut c.requires.enough refl)

pub returns : goal.returns
returns c =
    let text = c.args.text.now in let ends = c.args.ends.now in let n = c.args.columns + c.args.rows * c.args.columns in let to = start_at 0 ends n in
    let range : c.range.result.now ≡ take to text = rw (c.range.ensures.value, c.start_of-end.ensures, front to) refl in
    let first = cut-first text to (end-within text 0 ends n c.requires.cut).1 (end-whole text 0 ends n c.requires.cut c.utf8.text) 0 ends n c.requires.cut c.requires.enough refl in
    let said : sheet_of c.args.columns c.args.rows (cut c.range.result.now 0 (take n ends)) ≡ sheet_said c.args.columns c.args.rows (cut text 0 ends) = rw (range, first) (sheet-first c.args.columns c.args.rows (cut text 0 ends)) in
    subst (λ (x : SheetOf). IfOk c.of_texts.result (λ (s : SheetOf). s ≡ x)) said c.of_texts.ensures
