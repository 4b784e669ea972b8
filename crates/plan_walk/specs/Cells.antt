-- Definitions of what contracts see of a leaf's cell and its value, and of a row's object type.
use Rattle.std.specs.Prelude.{string_bytes}
use Rattle.gq_schema.specs.Types.{tree_of}
use Rattle.load_memory.specs.Rows.{cell_of}
use Rattle.execution.specs.Program as program
use Rattle.execution.specs.Program.{Text, Int, Boolean, LeafValue}
use Rattle.plan_program.specs.PlanPrograms.{TypeOf, object_type, type_fault}
use Rattle.plan_walk.specs.LeafTypes.{cell_at}
use Rattle.plan_walk.specs.declared.positions.Leaf.{Leaf}
use Rattle.plan_walk.specs.declared.cells.CellValue.{CellValue}
use Rattle.plan_walk.specs.declared.cells.CellValue.TheVariants as value
use Rattle.plan_walk.specs.declared.cells.TypeOf as rust
use Rattle.plan_walk.specs.declared.cells.TypeOf.TheVariants as variant

abbrev pub leaf_seen : Leaf → LeafValue
leaf_seen leaf = cell_at (tree_of leaf.schema.now) leaf.column.now leaf.ty.now
    (cell_of leaf.row.now leaf.column.now)

abbrev pub value_seen : CellValue → program.Leaf
value_seen (value.Text t) = Text t.now
value_seen (value.Int z) = Int z
value_seen (value.Bool b) = Boolean b

abbrev pub type_seen : rust.TypeOf → TypeOf
type_seen (variant.Object name) = object_type name.now
type_seen (variant.Fault text) = type_fault (string_bytes text)
