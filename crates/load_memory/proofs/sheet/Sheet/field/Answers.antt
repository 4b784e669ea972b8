use Rattle.std.proofs.Common.{arith, ◌∙◌}
use Rattle.std.proofs.lemmas.List.{length-take-le}
use Rattle.load_memory.proofs.PieceLaws.{field-at, length-pieces}
use Rattle.load_memory.proofs.sheet.Sheet.field.Goals as goal

pub overflow_mul-row : goal.overflow_mul-row
overflow_mul-row c =
    let row = rw (← c.self.view_is, length-pieces c.self.inside.width c.self.inside.rows _) at c.requires.row in
    let column = rw (← c.self.view_is, length-take-le c.self.inside.width c.self.inside.cells c.self.invariant.header) at c.requires.column in
    let field = field-at _ _ _ _ _ c.self.invariant row column in
    omega (arith, field.within, c.count_fits.ensures)

pub overflow_add-row-2 : goal.overflow_add-row-2
overflow_add-row-2 c =
    let row = rw (← c.self.view_is, length-pieces c.self.inside.width c.self.inside.rows _) at c.requires.row in
    let column = rw (← c.self.view_is, length-take-le c.self.inside.width c.self.inside.cells c.self.invariant.header) at c.requires.column in
    let field = field-at _ _ _ _ _ c.self.invariant row column in
    omega (arith, field.within, c.count_fits.ensures)

pub get-requires : goal.get-requires
get-requires c =
    let row = rw (← c.self.view_is, length-pieces c.self.inside.width c.self.inside.rows _) at c.requires.row in
    let column = rw (← c.self.view_is, length-take-le c.self.inside.width c.self.inside.cells c.self.invariant.header) at c.requires.column in
    (field-at _ _ _ _ _ c.self.invariant row column).within

pub returns : goal.returns
returns c =
    let row = rw (← c.self.view_is, length-pieces c.self.inside.width c.self.inside.rows _) at c.requires.row in
    let column = rw (← c.self.view_is, length-take-le c.self.inside.width c.self.inside.cells c.self.invariant.header) at c.requires.column in
    let field = field-at _ _ _ _ _ c.self.invariant row column in
    rw (← c.self.view_is) (c.get.ensures ∙ field.field)
