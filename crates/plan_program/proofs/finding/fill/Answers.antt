use Rattle.std.proofs.Common.{◌∙◌, ◌+◌, sym, ap, drop}
use Rattle.std.specs.Prelude.{bytes_eq}
use Rattle.indexmap.specs.IndexSet.{insert_all}
use Rattle.plan_program.specs.Finding.{texts_of, keys_in}
use Rattle.plan_program.proofs.Grouping.{keys-from, table-insert}
use Rattle.plan_program.proofs.finding.fill.Goals as goal

pub loop-group-preserved : goal.loop-group-preserved
loop-group-preserved c =
    let next = keys-from c.args.groups.now c.loop-group.group-index c.group-item.result c.loop-group-test.true c.group-item.is in
    let tabled = ap texts_of c.in-Ok.ensures.keys ∙ table-insert c.loop-group.table.keys c.group-item.result.key in
    let rest = keys_in (drop (c.loop-group.group-index + 1) c.args.groups.now) in
    ap (λ ts. insert_all bytes_eq ts rest) tabled ∙ (sym (ap (insert_all bytes_eq (texts_of c.loop-group.table.keys)) next) ∙ c.loop-group.invariant)
