use Rattle.std.proofs.Common.{◌+◌}
use Rattle.rules_parts.specs.declared.part.Owner.TheVariants as owner
use Rattle.rules_spreads.proofs.ReachLaws.{row-below}
use Rattle.rules_spreads.proofs.reaching.spreaders.Goals as goal

pub add_to-requires-clause-below : goal.add_to-requires-clause-below
add_to-requires-clause-below c =
    rw (c.row-row.ensures.row, c.loop-number.invariant.len) (row-below c.args.graph.now (owner.Operation (c.args.first + c.loop-number.number)) c.row-row.ensures.known)
