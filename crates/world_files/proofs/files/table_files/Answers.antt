use Rattle.world_files.proofs.Tables.{tables_more}
use Rattle.world_files.proofs.files.table_files.Goals as goal

pub loop-place-preserved : goal.loop-place-preserved
loop-place-preserved g c =
    tables_more _ _ _ _ _ _ _ c.loop-place-test.true c.index-given-place.is c.in_ok-push.ensures.items c.loop-place.invariant c.in-Ok.ensures.ok
