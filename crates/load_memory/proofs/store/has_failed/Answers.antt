use Rattle.std.proofs.Common.{◌∙◌, sym, take}
use Rattle.std.proofs.lemmas.List.{take_more}
use Rattle.load_memory.proofs.StoreLaws.{unfailed-more}
use Rattle.load_memory.proofs.store.has_failed.Goals as goal

pub loop-pair-preserved : goal.loop-pair-preserved
loop-pair-preserved c =
    let i = c.loop-pair.pair-index in
    let s = c.pair-item.result in
    rw (take_more c.args.pairs.now i s c.loop-pair-test.true, ← c.pair-item.is) (unfailed-more (take i c.args.pairs.now) s c.loop-pair.invariant (sym c.has_failed.ensures ∙ c.if-has_failed.false))
