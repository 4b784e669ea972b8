use Rattle.rules_spreads.specs.OwnerLists.{owner_rows}
use Rattle.rules_untyped.proofs.UseLaws.{next_miss}
use Rattle.rules_untyped.proofs.variable_use_index.stand_in.Goals as goal

pub returns : goal.returns
returns c = λ uses numbers own so_far.
    next_miss uses numbers (owner_rows c.args.rows.now) (owner_rows c.add.new.self) c.args.lasts.now.items c.put.new.items.items c.args.owner c.args.number c.args.place own so_far c.in_ok-add.ensures c.in_ok-put.ensures
