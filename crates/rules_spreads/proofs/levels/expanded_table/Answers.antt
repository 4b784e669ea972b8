use Rattle.std.proofs.Common.{map}
use Rattle.gq_parser.specs.Tree.{fragment_of}
use Rattle.rules_spreads.proofs.LevelLaws.{expanded-agrees, expanded-full}
use Rattle.rules_spreads.proofs.levels.expanded_table.Goals as goal

pub loop-preserved : goal.loop-preserved
loop-preserved c =
    let fragments = map fragment_of c.args.parts.now.document.now.fragments.items in
    rw (c.in_ok-table-2.ensures, c.deref.ensures.value) record {
      agrees = expanded-agrees c.loop.table.items c.loop.counter fragments c.loop.invariant.agrees;
      full = expanded-full c.loop.table.items fragments c.loop.invariant.full;
    }
