use Rattle.plan_walk.specs.Groups.{children_in}
use Rattle.plan_walk.proofs.Grouping.{each-asking}
use Rattle.plan_walk.proofs.loading_fields.asks_for_each.Goals as goal

pub returns : goal.returns
returns c =
    each-asking c.args.groups.now.items c.new_loading_field.new.groups.items (children_in c.args.children) c.args.loader c.args.keys c.child_items-items.result c.in_ok-group.group c.in_ok-group.ensures (rw c.deref.ensures at c.child_items-items.ensures.nullability) (rw c.deref.ensures at c.child_items-items.ensures.place)
