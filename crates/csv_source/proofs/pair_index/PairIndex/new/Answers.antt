use Rattle.std.proofs.Common.{refl}
use Rattle.std.specs.Arc.{arc_value}
use Rattle.std.proofs.lemmas.Result.{err_from_is_err_and}
use Rattle.csv_source.proofs.Columns.{absent, found, found-name, IsColumn-found}
use Rattle.csv_source.proofs.pair_index.PairIndex.new.Goals as goal

pub returns-in_default-clause-err : goal.returns-in_default-clause-err
returns-in_default-clause-err c = rw (← c.table.view_is) (λ both. absent _ _ (rw c.deref.ensures at c.in_default.ensures) both.0)

pub returns-in_default-column-clause-err : goal.returns-in_default-column-clause-err
returns-in_default-column-clause-err c = rw (← c.table.view_is) (λ both. absent _ _ (rw c.deref-2.ensures at c.in_default-column.ensures) both.1)

pub returns-in_err-sheet-clause-err : goal.returns-in_err-sheet-clause-err
returns-in_err-sheet-clause-err c =
    let p = err_from_is_err_and c.from_residual.result c.from_residual.ensures.1 in
    rw (p.1, p.2, ← c.table.view_is)
    (found _ _ c.in-Some.column (rw c.deref.ensures at c.in-Some.ensures), found _ _ c.in-Some-column.second (rw c.deref-2.ensures at c.in-Some-column.ensures))

pub link_rows-requires : goal.link_rows-requires
link_rows-requires c =
    let sheet = arc_value c.table.inside.sheet in
    rw (c.deref-3.ensures, c.in_ok-sheet.ensures)
    (IsColumn-found sheet _ c.in-Some.column (rw c.deref.ensures at c.in-Some.ensures), IsColumn-found sheet _ c.in-Some-column.second (rw c.deref-2.ensures at c.in-Some-column.ensures))

pub returns-in_err-links-clause-err : goal.returns-in_err-links-clause-err
returns-in_err-links-clause-err c =
    let p = err_from_is_err_and c.from_residual-in_err-links.result c.from_residual-in_err-links.ensures.1 in
    rw (p.1, p.2, ← c.table.view_is)
    (found _ _ c.in-Some.column (rw c.deref.ensures at c.in-Some.ensures), found _ _ c.in-Some-column.second (rw c.deref-2.ensures at c.in-Some-column.ensures))

pub invariant_of-result : goal.invariant_of-result
invariant_of-result c =
    let sheet = arc_value c.table.inside.sheet in
    record {
      rectangular = rw c.deref-3.ensures at c.in_ok-links.ensures.rectangular;
      named = rw c.in_ok-sheet.ensures (IsColumn-found sheet _ c.in-Some.column (rw c.deref.ensures at c.in-Some.ensures), IsColumn-found sheet _ c.in-Some-column.second (rw c.deref-2.ensures at c.in-Some-column.ensures));
      buckets = c.in_ok-links.ensures.buckets;
      linked = rw c.deref-3.ensures at c.in_ok-links.ensures.linked;
    }

pub returns-clause-ok : goal.returns-clause-ok
returns-clause-ok c =
    let column = rw c.deref.ensures at c.in-Some.ensures in
    let second = rw c.deref-2.ensures at c.in-Some-column.ensures in
    rw (← c.table.view_is, c.in_ok-sheet.ensures, found-name _ _ c.in-Some.column column, found-name _ _ c.in-Some-column.second second) refl

pub returns-clause-there : goal.returns-clause-there
returns-clause-there c =
    rw (← c.table.view_is)
    (found _ _ c.in-Some.column (rw c.deref.ensures at c.in-Some.ensures), found _ _ c.in-Some-column.second (rw c.deref-2.ensures at c.in-Some-column.ensures))
