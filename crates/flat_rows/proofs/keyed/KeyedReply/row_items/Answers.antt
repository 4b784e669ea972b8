use Rattle.std.proofs.Common.{◌∙◌, drop, length, map, ap, subst, arith}
use Rattle.std.proofs.lemmas.Result.{err_from_is_err_and}
use Rattle.load_memory.specs.Cells.{cut}
use Rattle.load_memory.specs.Keys.{key_of}
use Rattle.load_memory.proofs.CellLaws.{length-cut}
use Rattle.load_memory.proofs.PieceLaws.{length-pieces}
use Rattle.flat_rows.specs.Grouped.{GroupFault, look_by, place_in}
use Rattle.flat_rows.specs.Keyed.{AreAsked, LacksKeyColumn, by_of, keyed_items, laid_rows, no_key_column, no_memory, of_rows, rows_in_sheet, sheet_laid}
use Rattle.flat_rows.specs.Replies.{sheet_said}
use Rattle.flat_rows.specs.declared.fault.FlatFault.TheVariants as flat
use Rattle.flat_rows.proofs.KeyedItems.{all-asked, are-firsts, group-fault, under-keys, within}
use Rattle.flat_rows.proofs.keyed.KeyedReply.row_items.Goals as goal

pub sheet-requires : goal.sheet-requires
sheet-requires c =
    let r = c.args.self.now in
    let many = ap length c.requires.texts ∙ length-cut r.bytes.now 0 r.ends.now in
    omega (arith, c.requires.formed.all, many)

pub returns-in_err-sheet-clause-fault : goal.returns-in_err-sheet-clause-fault
returns-in_err-sheet-clause-fault c =
    let p = err_from_is_err_and c.from_residual.result c.from_residual.ensures.1 in
    rw (p.1, p.2) (of_rows flat.NoMemory c.requires.placed no_memory)

pub returns-in_default-clause-fault : goal.returns-in_default-clause-fault
returns-in_default-clause-fault c =
    let r = laid_rows c.args.self.now in
    let sheet = c.in_ok-sheet.ensures ∙ ap (sheet_said r.columns r.count) c.requires.texts in
    let many = length-pieces r.columns r.count (drop r.columns (cut r.bytes 0 r.ends)) in
    no_key_column c.requires.placed c.requires.formed (rw (sheet, many) at c.in_default.ensures.none)

pub returns-in_err-sheet-2-clause-fault : goal.returns-in_err-sheet-2-clause-fault
returns-in_err-sheet-2-clause-fault c =
    let p = err_from_is_err_and c.from_residual-in_err-sheet-2.result c.from_residual-in_err-sheet-2.ensures.1 in
    rw (p.1, p.2) (of_rows flat.NoMemory c.requires.placed no_memory)

pub returns-in_err-asked-clause-fault : goal.returns-in_err-asked-clause-fault
returns-in_err-asked-clause-fault c =
    let p = err_from_is_err_and c.from_residual-in_err-asked.result c.from_residual-in_err-asked.ensures.1 in
    rw (p.1, p.2) (of_rows flat.NoMemory c.requires.placed no_memory)

pub group_rows-requires-clause-within : goal.group_rows-requires-clause-within
group_rows-requires-clause-within c =
    let asked = c.in_ok-asked.asked in
    within (by_of c.args.by.now) (map key_of c.args.keys.now) (place_in asked.first) asked.of_keys.items c.in_ok-asked.ensures.first c.in_ok-asked.ensures.of_keys

pub returns-in_err-groups-clause-fault : goal.returns-in_err-groups-clause-fault
returns-in_err-groups-clause-fault c =
    let by = by_of c.args.by.now in let asked = c.in_ok-asked.asked in let r = laid_rows c.args.self.now in
    let p = err_from_is_err_and c.from_residual-in_err-groups.result c.from_residual-in_err-groups.ensures.1 in
    let first = c.in_ok-sheet.ensures ∙ ap (sheet_said r.columns r.count) c.requires.texts in
    let sheet = c.in_ok-sheet-2.ensures ∙ first in
    let many = length-pieces r.columns r.count (drop r.columns (cut r.bytes 0 r.ends)) in
    let columned : ¬ (LacksKeyColumn (sheet_laid r).names r.count by.columns) = rw (first, many) at c.in-Some.ensures.columned in
    let fault = subst (λ s. GroupFault (look_by by (place_in asked.first)) (rows_in_sheet s) c.in_err-groups.field-0.0) sheet c.in_err-groups.ensures.fault in
    rw (p.1, p.2) (group-fault by (map key_of c.args.keys.now) (place_in asked.first) asked.of_keys.items c.in_ok-asked.ensures.first c.in_ok-asked.ensures.of_keys r c.requires.placed c.requires.formed columned _ fault)

pub items_of-requires-clause-first : goal.items_of-requires-clause-first
items_of-requires-clause-first c =
    let asked = c.in_ok-asked.asked in
    rw c.deref.ensures.value (are-firsts (by_of c.args.by.now) (map key_of c.args.keys.now) (place_in asked.first) asked.of_keys.items c.in_ok-asked.ensures.first c.in_ok-asked.ensures.of_keys)

pub returns-in_err-items_of-clause-fault : goal.returns-in_err-items_of-clause-fault
returns-in_err-items_of-clause-fault c =
    let p = err_from_is_err_and c.from_residual-in_err-items_of.result c.from_residual-in_err-items_of.ensures.1 in
    rw (p.1, p.2) (of_rows flat.NoMemory c.requires.placed no_memory)

pub returns-clause-keyed : goal.returns-clause-keyed
returns-clause-keyed c =
    let by = by_of c.args.by.now in let ks = map key_of c.args.keys.now in let asked = c.in_ok-asked.asked in let r = laid_rows c.args.self.now in
    let sheet = c.in_ok-sheet-2.ensures ∙ c.in_ok-sheet.ensures ∙ ap (sheet_said r.columns r.count) c.requires.texts in
    let under = under-keys by ks (place_in asked.first) asked.of_keys.items c.in_ok-asked.ensures.first c.in_ok-asked.ensures.of_keys _ _ c.in_ok-groups.ensures.groups in
    (rw c.deref.ensures.value at c.in_ok-items_of.ensures) ∙ under ∙ ap (λ s. keyed_items by ks (rows_in_sheet s)) sheet

pub returns-clause-asked : goal.returns-clause-asked
returns-clause-asked c =
    let by = by_of c.args.by.now in let ks = map key_of c.args.keys.now in let asked = c.in_ok-asked.asked in let r = laid_rows c.args.self.now in
    let sheet = c.in_ok-sheet-2.ensures ∙ c.in_ok-sheet.ensures ∙ ap (sheet_said r.columns r.count) c.requires.texts in
    subst (λ s. AreAsked by ks (rows_in_sheet s)) sheet
    (all-asked by ks (place_in asked.first) asked.of_keys.items c.in_ok-asked.ensures.first c.in_ok-asked.ensures.of_keys _ _ c.in_ok-groups.ensures.groups)
