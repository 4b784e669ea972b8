use Rattle.std.proofs.Common.{◌∙◌, map}
use Rattle.gq_parser.specs.Tree.{fragment_of}
use Rattle.rules_spreads.proofs.LevelLaws.{settled-next}
use Rattle.rules_spreads.proofs.levels.ordered_table.Goals as goal
use Rattle.rules_spreads.proofs.levels.ordered_table.Goals.{in-Some, in-None}

pub loop-i-preserved : goal.loop-i-preserved
loop-i-preserved c =
    let fragments = map fragment_of c.args.parts.now.document.now.fragments.items in
    elim c.match-get.branch [
      | in-Some w ↦ rw w.table-is record { settled = w.learn.ensures.settled c.loop-i.i c.loop-i.invariant.settled; len = w.learn.ensures.len ∙ c.loop-i.invariant.len }
      | in-None w ↦ rw w.table-is record { settled = settled-next c.loop-i.table.items c.loop-i.i fragments c.loop-i.invariant.settled; len = c.loop-i.invariant.len }
    ]
