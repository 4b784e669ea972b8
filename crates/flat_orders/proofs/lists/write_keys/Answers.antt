use Rattle.std.proofs.Common.{◌∙◌}
use Rattle.std.proofs.lemmas.List.{take_all}
use Rattle.load_memory.specs.Keys.{key_of}
use Rattle.flat_orders.proofs.Writing.{shapes-more, texts-more}
use Rattle.flat_orders.proofs.lists.write_keys.Goals as goal

pub loop-key-preserved : goal.loop-key-preserved
loop-key-preserved c =
    let now = c.loop-key.invariant in let keys = c.args.keys.now in let i = c.loop-key.key-index in
    record {
      shapes = c.in_ok-write_key.ensures.shape ∙ shapes-more key_of keys i c.key-item.result c.loop-key-test.true c.key-item.is _ _ now.shapes;
      texts = c.in_ok-write_key.ensures.texts ∙ texts-more key_of keys i c.key-item.result c.loop-key-test.true c.key-item.is _ _ now.texts;
    }

pub returns-clause-shapes : goal.returns-clause-shapes
returns-clause-shapes c = rw (← take_all c.loop-key.key-index c.args.keys.now c.loop-key-test.false) c.loop-key.invariant.shapes

pub returns-clause-texts : goal.returns-clause-texts
returns-clause-texts c = rw (← take_all c.loop-key.key-index c.args.keys.now c.loop-key-test.false) c.loop-key.invariant.texts
