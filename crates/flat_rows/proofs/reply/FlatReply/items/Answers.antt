use Rattle.std.proofs.Common.{◌≡◌, length, drop, sym, ap, ◌∙◌, subst}
use Rattle.std.proofs.lemmas.Result.{err_from_is_err_and}
use Rattle.load_memory.proofs.CellLaws.{length-cut}
use Rattle.load_memory.proofs.PieceLaws.{length-pieces}
use Rattle.flat_rows.specs.Faults.{CountFault, of_texts, of_counts, no_memory}
use Rattle.flat_rows.proofs.reply.FlatReply.items.Goals as goal

pub returns-in_err-texts-clause-fault : goal.returns-in_err-texts-clause-fault
returns-in_err-texts-clause-fault c =
    let p = err_from_is_err_and c.from_residual.result c.from_residual.ensures.1 in
    rw (p.1, p.2) (of_texts _ c.in_err-texts.ensures.fault)

pub returns-in_err-totals-clause-fault : goal.returns-in_err-totals-clause-fault
returns-in_err-totals-clause-fault c =
    let r = c.args.self.now in
    let p = err_from_is_err_and c.from_residual-in_err-totals.result c.from_residual-in_err-totals.ensures.1 in
    let many : c.len.result ≡ length r.ends.now = c.len.ensures ∙ ap length c.in_ok-texts.ensures.ok ∙ length-cut r.bytes.now 0 r.ends.now in
    rw (p.1, p.2) (of_counts _ c.in_ok-texts.ensures.whole.0 c.in_ok-texts.ensures.whole.1 (subst (λ n. CountFault r.columns r.rows.now n c.in_err-totals.field-0.0) many c.in_err-totals.ensures.fault))

pub returns-in_err-sheet-clause-fault : goal.returns-in_err-sheet-clause-fault
returns-in_err-sheet-clause-fault c =
    let p = err_from_is_err_and c.from_residual-in_err-sheet.result c.from_residual-in_err-sheet.ensures.1 in
    rw (p.1, p.2) no_memory

pub returns-in_err-sheet-2-clause-fault : goal.returns-in_err-sheet-2-clause-fault
returns-in_err-sheet-2-clause-fault c =
    let p = err_from_is_err_and c.from_residual-in_err-sheet-2.result c.from_residual-in_err-sheet-2.ensures.1 in
    rw (p.1, p.2) no_memory

pub items-requires-clause-rows : goal.items-requires-clause-rows
items-requires-clause-rows c =
    let r = c.args.self.now in
    let many = length-pieces r.columns c.in_ok-totals.totals.rows (drop r.columns c.in_ok-texts.texts) in
    rw (c.in_ok-sheet-2.ensures, c.in_ok-sheet.ensures, many) (sym c.in_ok-totals.ensures.rows.0)

pub returns-in_err-items-clause-fault : goal.returns-in_err-items-clause-fault
returns-in_err-items-clause-fault c =
    let p = err_from_is_err_and c.from_residual-in_err-items.result c.from_residual-in_err-items.ensures.1 in
    rw (p.1, p.2) no_memory
