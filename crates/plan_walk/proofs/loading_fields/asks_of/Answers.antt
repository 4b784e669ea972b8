use Rattle.std.proofs.Common.{refl, ap, map}
use Rattle.std.specs.Arc.{arc_value}
use Rattle.gq_parser.specs.Tree.{type_of}
use Rattle.gq_bindings.specs.Seen.{step_of}
use Rattle.load_memory.specs.Rows.{cell_of}
use Rattle.execution.specs.Program.{LeafValue, Is}
use Rattle.plan_program.specs.FieldValues.{cell}
use Rattle.plan_program.specs.RowUses.{First, Each, Joined}
use Rattle.plan_walk.specs.Groups.{children_in}
use Rattle.plan_walk.specs.LeafTypes.{leaf_type}
use Rattle.plan_walk.specs.declared.loading_fields.FieldResolver.TheVariants as asks
use Rattle.plan_walk.proofs.Grouping.{load-asking, settled-asking}
use Rattle.plan_walk.proofs.Leaves.{cell-alike}
use Rattle.plan_walk.proofs.loading_fields.asks_of.Goals as goal

pub returns-in_ok-group-in-First : goal.returns-in_ok-group-in-First
returns-in_ok-group-in-First c =
    rw c.in-First.is
    (load-asking c.args.groups.now.items c.new_loading_field.new.groups.items First (children_in c.in-First.children) c.in-First.loader c.in-First.key c.in_ok-group-in-First.group _ c.in_ok-group-in-First.ensures refl refl (λ plan levels row. refl))

pub returns-in_ok-group-in-All : goal.returns-in_ok-group-in-All
returns-in_ok-group-in-All c =
    rw c.in-All.is
    (load-asking c.args.groups.now.items c.new_loading_field-in-All.new.groups.items Each (children_in c.in-All.children) c.in-All.loader c.in-All.key c.in_ok-group-in-All.group _ c.in_ok-group-in-All.ensures refl refl (λ plan levels row. refl))

pub returns-in_ok-group-in-Joined : goal.returns-in_ok-group-in-Joined
returns-in_ok-group-in-Joined c =
    rw c.in-Joined.is
    (load-asking c.args.groups.now.items c.new_loading_field-in-Joined.new.groups.items (Joined (map step_of (arc_value c.in-Joined.steps).items)) (children_in c.in-Joined.children) c.in-Joined.loader c.in-Joined.key c.in_ok-group-in-Joined.group _ c.in_ok-group-in-Joined.ensures refl refl (λ plan levels row. refl))

pub returns-in-Cell : goal.returns-in-Cell
returns-in-Cell c =
    let column = c.in-Cell.column in
    let ty = type_of c.in-Cell.ty in
    rw (c.in-Cell.is, c.of.ensures)
    (settled-asking c.args.groups.now.items (cell column ty) (asks.Cell column (leaf_type ty)) tt refl (λ plan. tt) (λ plan v levels row. ap (λ (l : LeafValue). Is l) (cell-alike plan.definitions column ty (cell_of row column))))
