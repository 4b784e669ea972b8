use Rattle.std.proofs.Common.{◌≡◌, ◌∙◌, ap, length, subst, sym}
use Rattle.std.proofs.lemmas.Result.{err_from_is_err_and}
use Rattle.load_memory.proofs.CellLaws.{length-cut}
use Rattle.flat_rows.specs.Keyed.{CellsFault, of_texts, of_cells}
use Rattle.flat_rows.proofs.keyed.KeyedReply.texts.Goals as goal

pub returns-in_err-texts-clause-fault : goal.returns-in_err-texts-clause-fault
returns-in_err-texts-clause-fault c =
    let p = err_from_is_err_and c.from_residual.result c.from_residual.ensures.1 in
    rw (p.1, p.2) (of_texts _ c.in_err-texts.ensures.fault)

pub returns-in_err-check_cells-clause-fault : goal.returns-in_err-check_cells-clause-fault
returns-in_err-check_cells-clause-fault c =
    let r = c.args.self.now in
    let p = err_from_is_err_and c.from_residual-in_err-check_cells.result c.from_residual-in_err-check_cells.ensures.1 in
    let many : c.len.result ≡ length r.ends.now = c.len.ensures ∙ ap length c.in_ok-texts.ensures.ok ∙ length-cut r.bytes.now 0 r.ends.now in
    rw (p.1, p.2) (of_cells _ c.in_ok-texts.ensures.whole.0 c.in_ok-texts.ensures.whole.1 (subst (λ n. CellsFault r.columns r.rows (length r.faults.now) n c.in_err-check_cells.field-0.0) many c.in_err-check_cells.ensures.fault))

pub returns-clause-formed : goal.returns-clause-formed
returns-clause-formed c =
    let r = c.args.self.now in
    let many : c.len.result ≡ length r.ends.now = c.len.ensures ∙ ap length c.in_ok-texts.ensures.ok ∙ length-cut r.bytes.now 0 r.ends.now in
    record {
      utf8 = c.in_ok-texts.ensures.whole.0;
      ends_are = c.in_ok-texts.ensures.whole.1;
      columned = c.in_ok-check_cells.ensures.columned;
      all = sym many ∙ c.in_ok-check_cells.ensures.texts;
    }
