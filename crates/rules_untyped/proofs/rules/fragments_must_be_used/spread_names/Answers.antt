use Rattle.std.proofs.Common.{map, drop, ◌+◌}
use Rattle.std.specs.List.{list_any}
use Rattle.rules_parts.specs.Parts.{spread_part_of}
use Rattle.rules_untyped.specs.Scans.{has_text}
use Rattle.rules_untyped.specs.FragmentsMustBeUsed.{spreads}
use Rattle.rules_untyped.proofs.ScanLaws.{drop-next, noted-name, or-more}
use Rattle.rules_untyped.proofs.rules.fragments_must_be_used.spread_names.Goals as goal

pub loop-part-preserved : goal.loop-part-preserved
loop-part-preserved c = λ q.
    let all = c.deref-part-items.result.now in
    let i = c.loop-part.part-index in
    let item = c.part-item.result in
    let name = item.spread.now.name in
    let noted = noted-name (has_text c.insert.new.self q) (has_text c.loop-part.names q) _ name q c.as_str.ensures (c.in_ok-insert.ensures.updates.0 (record { ref_ptr = (0, 0); now = q })) in
    or-more _ _ _ (list_any (spreads q) (map spread_part_of (drop (i + 1) all))) _ noted (rw (drop-next all i item c.loop-part-test.true c.part-item.is) at (c.loop-part.invariant q))
