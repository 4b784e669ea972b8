use Rattle.std.proofs.Common.{◌<◌, length, arith, refl}
use Rattle.rules_spreads.proofs.RowLaws.{rows-set, rows-beyond}
use Rattle.rules_spreads.proofs.graph.add_target.Goals as goal

pub returns-in_ok-push-in-Some : goal.returns-in_ok-push-in-Some
returns-in_ok-push-in-Some c =
    let rows = c.args.rows.now.items in
    let lt : c.args.number < length rows = omega (arith, c.in-Some.ensures.variant.0 refl) in
    rows-set rows c.args.number c.args.target c.push.new.self c.in-Some.row.now lt (rw c.in-Some.ensures.value at c.in_ok-push-in-Some.ensures.items)

pub returns-in-None : goal.returns-in-None
returns-in-None c = rows-beyond c.args.rows.now.items c.args.number c.args.target (grind (arith, c.in-None.ensures.variant.1))
