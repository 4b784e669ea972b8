use Rattle.std.proofs.Common.{◌≡◌, refl, [], ◌∷◌, arith}
use Rattle.std.specs.Arc.{arc_value}
use Rattle.std.proofs.lemmas.List.Elements.{All-append}
use Rattle.csv_source.specs.Tables.{index_of}
use Rattle.csv_source.proofs.Columns.{found-name}
use Rattle.world.specs.IndexedColumns.{IsKept}
use Rattle.world.proofs.tables.IndexedTable.add.Goals as goal

pub invariant_of-self-2 : goal.invariant_of-self-2
invariant_of-self-2 c =
    let sheet = arc_value c.self.inside.table in
    let place = rw (← c.self.view_is) at c.requires in
    let made : arc_value c.in_ok-kept.kept ≡ index_of sheet c.args.place c.args.mode = rw (c.in_ok-kept.ensures, c.in_ok-index.ensures.ok, c.in-Ok.ensures.ok, c.deref.ensures, found-name _ _ c.args.place place) refl in
    let kept : IsKept sheet (record { column = c.args.place; index = c.in_ok-kept.kept }) = rw made refl in
    rw c.in_ok-push.ensures.items (All-append (IsKept sheet) c.self.inside.indices.items (record { column = c.args.place; index = c.in_ok-kept.kept } ∷ []) c.self.invariant (λ k d lt. let first : k ≡ 0 = omega (arith, lt) in rw first kept))

pub returns-clause-ok : goal.returns-clause-ok
returns-clause-ok c =
    let place = rw (← c.self.view_is) at c.requires in
    rw (← c.self.view_is, c.in_ok-index.ensures.ok, c.in-Ok.ensures.ok, c.deref.ensures, found-name _ _ c.args.place place) refl
