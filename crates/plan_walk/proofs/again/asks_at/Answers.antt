use Rattle.std.specs.Arc.{arc_value}
use Rattle.std.proofs.Common.{refl, ap, map}
use Rattle.gq_parser.specs.Tree.{type_of}
use Rattle.gq_bindings.specs.Seen.{step_of}
use Rattle.load_memory.specs.Rows.{cell_of}
use Rattle.execution.specs.Program.{LeafValue, Is}
use Rattle.plan_program.specs.FieldValues.{cell}
use Rattle.plan_program.specs.RowUses.{First, Each, Joined}
use Rattle.plan_walk.specs.Groups.{children_in}
use Rattle.plan_walk.specs.LeafTypes.{leaf_type}
use Rattle.plan_walk.specs.declared.loading_fields.FieldResolver.TheVariants as asks
use Rattle.plan_walk.proofs.Grouping.{load-asking-over, each-asking-over, settled-asking-over}
use Rattle.plan_walk.proofs.Leaves.{cell-alike}
use Rattle.plan_walk.proofs.again.asks_at.Goals as goal

pub returns-in-First : goal.returns-in-First
returns-in-First c =
    rw c.in-First.is (λ plan gs h. load-asking-over plan gs (record { next = First; children = children_in c.in-First._children }) c.in-First.loader c.in-First.key c.args.group _ h refl refl (λ levels row. refl))

pub returns-in-All : goal.returns-in-All
returns-in-All c =
    rw c.in-All.is (λ plan gs h. load-asking-over plan gs (record { next = Each; children = children_in c.in-All._children }) c.in-All.loader c.in-All.key c.args.group _ h refl refl (λ levels row. refl))

pub returns-in-Each : goal.returns-in-Each
returns-in-Each c =
    rw c.in-Each.is
    (λ plan gs h. each-asking-over plan gs (children_in c.in-Each.children) c.in-Each.loader c.in-Each.keys c.child_items.result c.args.group h (rw c.deref.ensures at c.child_items.ensures.nullability) (rw c.deref.ensures at c.child_items.ensures.place))

pub returns-in-Joined : goal.returns-in-Joined
returns-in-Joined c =
    rw c.in-Joined.is
    (λ plan gs h. load-asking-over plan gs (record { next = Joined (map step_of (arc_value c.in-Joined._steps).items); children = children_in c.in-Joined._children }) c.in-Joined.loader c.in-Joined.key c.args.group _ h refl refl (λ levels row. refl))

pub returns-in-Cell : goal.returns-in-Cell
returns-in-Cell c =
    let column = c.in-Cell.column in
    let ty = type_of c.in-Cell.ty in
    rw (c.in-Cell.is, c.of.ensures)
    (λ plan gs may. settled-asking-over plan gs (cell column ty) (asks.Cell column (leaf_type ty)) tt refl tt (λ v levels row. ap (λ (l : LeafValue). Is l) (cell-alike plan.definitions column ty (cell_of row column))))
